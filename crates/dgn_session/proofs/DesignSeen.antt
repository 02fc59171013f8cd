-- What holds of a session's design holds of its value.
use Rattle.std.proofs.Common.{ℕ, List, subst}
use Rattle.elem_index.specs.declared.design.Design.{Design}
use Rattle.dgn_session.specs.State.{SessionValue}
use Rattle.dgn_session.specs.SessionParts.{IsDesignOf}

pub as_seen : (v : SessionValue) (d : Design) → IsDesignOf v d → (P : ℕ → List ℕ → List ℕ → Type 0)
    → P d.dim d.body.items d.tail.items → P v.dim v.body v.tail
as_seen v d is P holds =
    subst (λ (k : ℕ). P k v.body v.tail) is.dim
    (subst (λ (b : List ℕ). P d.dim b v.tail) is.body (subst (λ (t : List ℕ). P d.dim d.body.items t) is.tail holds))
