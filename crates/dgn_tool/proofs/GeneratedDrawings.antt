-- A generated drawing opens as it is defined, so a session begins on it.
use Rattle.std.proofs.Common.{◌≡◌, ◌≤◌, ◌++◌, List, ℕ, length, vec_len, Vec, Global, Result, Ok, Err, sym, ap, ◌∙◌, subst}
use Rattle.std.specs.Prelude.{IfOk}
use Rattle.dgn_drawing.specs.Opening.{Opens}
use Rattle.dgn_drawing.specs.declared.limits.TheConstants.{MOST_DESIGN}
use Rattle.elem_index.specs.Answers.{opened_of}
use Rattle.elem_index.proofs.OpeningAnswers.{opens_as_once}
use Rattle.elem_index.specs.declared.design.Design.{Design}
use Rattle.elem_index.specs.Design.{elements, IsWhole}
use Rattle.dgn_session.specs.SessionParts.{first_value}
use Rattle.dgn_session.specs.State.{SessionValue}
use Rattle.dgn_tool.specs.Generation.{drawing_of}
use Rattle.dgn_generator.specs.Generator.{generated}
use Rattle.dgn_generator.proofs.GeneratedFile.{generated_opens}

-- it isn't too long
pub few_made : (seed count : ℕ) (bytes : Vec ℕ Global) → count ≤ 200000 → bytes.items ≡ generated seed count → vec_len bytes ≤ MOST_DESIGN
few_made seed count bytes few are = subst (λ (n : ℕ). n ≤ MOST_DESIGN) (sym (bytes.ok.0 ∙ ap (length {A = ℕ}) are)) (generated_opens seed count few).few

-- the design that its bytes open as is the drawing, since they open in one way
pub begins : (seed count : ℕ) (bytes : List ℕ) (design : Design) → count ≤ 200000 → bytes ≡ generated seed count → IsWhole design → design.body.items
    ++ design.tail.items ≡ bytes → opened_of design ≡ drawing_of seed count
begins seed count bytes design few are whole text =
    let opens : Opens (generated seed count) design.dim (elements design) design.tail.items =
    subst (λ (f : List ℕ). Opens f design.dim (elements design) design.tail.items) (text ∙ are) whole.is_open.opens in
    opens_as_once (generated seed count) (opened_of design) (drawing_of seed count) opens (generated_opens seed count few).opens

-- and a session that begins on it has its tail
pub tail_begun : {E : Type 0} (r : Result SessionValue E) (d : Design) (t : List ℕ) → IfOk r (λ s. s ≡ first_value d) → d.tail.items ≡ t
    → IfOk r (λ s. s.tail ≡ t)
tail_begun (Ok s) d t is same = ap (λ (v : SessionValue). v.tail) is ∙ same
tail_begun (Err e) d t is same = tt
