-- What a session comes to when a plan is carried out on it, and when an undo is.
use Rattle.std.proofs.Common.{◌≡◌, ℕ, List, [], ◌∷◌, ◌++◌, Option, refl, sym, ap, ◌∙◌, subst}
use Rattle.patch_bytes.specs.Puts.{write}
use Rattle.plane_geom.specs.declared.pt.Pt.{Pt}
use Rattle.undo_log.specs.declared.entry.Entry.{Entry}
use Rattle.undo_log.specs.LogState.{LogState}
use Rattle.undo_log.specs.Entries.{entry_of, IsUndone}
use Rattle.dgn_drawing.specs.Element.{Element}
use Rattle.dgn_drawing.specs.declared.mask.Mask.{Mask}
use Rattle.dgn_drawing.specs.Spelling.{spelling}
use Rattle.elem_index.specs.declared.design.Design.{Design}
use Rattle.edit_ops.specs.declared.types.plan.Plan.{Plan}
use Rattle.edit_ops.specs.Applying.{Applied, Done}
use Rattle.edit_ops.specs.Fields.{Field}
use Rattle.dgn_session.specs.State.{SessionValue, state_of, push_made, after_undo, entry_with, value_with}
use Rattle.dgn_session.specs.SessionParts.{value_of}
use Rattle.dgn_session.specs.SessionParts.{value_after}
use Rattle.dgn_session.proofs.PlannedBody.{IsPlanned, text_is, made_are, entry_leads, entry_is}
use Rattle.dgn_session.proofs.Steps.{pushed_state, undone_state}

-- a session's value, by its dimension, body, tail and entries
abbrev value_in : ℕ → List ℕ → List ℕ → List Entry → SessionValue → SessionValue
value_in dim body tail entries v = record { dim = dim; body = body; tail = tail; entries = entries; mask = v.mask; fence = v.fence }

value_same : (v : SessionValue) (dim : ℕ) (body body' tail : List ℕ) (entries entries' : List Entry) → dim ≡ v.dim → body ≡ body' → tail ≡ v.tail
    → entries ≡ entries' → value_in dim body tail entries v ≡ value_with body' entries' v
value_same v dim body body' tail entries entries' axes text behind es =
    ap (λ (n : ℕ). value_in n body tail entries v) axes ∙ ap (λ (x : List ℕ). value_in v.dim x tail entries v) text
    ∙ ap (λ (x : List ℕ). value_in v.dim body' x entries v) behind ∙ ap (λ (x : List Entry). value_in v.dim body' v.tail x v) es

-- an undo, on the session's value
pub undone_value : (d g : Design) (l m : LogState) (mask : Mask) (fence : Option (List Pt)) → g.dim ≡ d.dim → g.tail.items ≡ d.tail.items
    → IsUndone l.entries d.body.items m.entries g.body.items → state_of (value_of g m mask fence) ≡ after_undo (state_of (value_of d l mask fence))
undone_value d g l m mask fence axes tail is =
    ap state_of (value_same (value_of d l mask fence) g.dim g.body.items g.body.items g.tail.items m.entries m.entries axes refl tail refl)
    ∙ undone_state (value_of d l mask fence) g.body.items m.entries is

-- a session after what came to this, which wrote these fields: it is done, the state has one list more, the log one
-- entry more
pub record HasMade (a : Applied) (fields : List Field) (old new : SessionValue) : Type 0 where
  pub accepted : a ≡ Done (state_of new).top
  pub done : state_of new ≡ push_made a (state_of old)
  pub value : new ≡ value_with (spelling (state_of new).top) (old.entries ++ entry_with (state_of old).top fields ∷ []) old

-- the elements become others by these fields, which is planned and carried out
module _ (old : SessionValue) (fields : List Field) (made : List Element) (p : Plan) (planned : IsPlanned old.dim old.tail old.body fields made p) where
  -- a session's value that has what the plan leaves
  abbrev after : SessionValue
  after = value_after p.patches p.append old

  are : (state_of after).top ≡ made
  are = made_are old.dim old.tail old.body fields made p planned

  done_after : state_of after ≡ push_made (Done made) (state_of old)
  done_after =
      pushed_state old (write old.body p.patches ++ p.append) (entry_of old.body p.patches) made
      (entry_leads old.dim old.tail old.body fields made p planned) are

  value_is : after ≡ value_with (spelling (state_of after).top) (old.entries ++ entry_with (state_of old).top fields ∷ []) old
  value_is =
      ap (λ (body : List ℕ). value_with body (old.entries ++ entry_of old.body p.patches ∷ []) old)
      (text_is old.dim old.tail old.body fields made p planned ∙ ap spelling (sym are))
      ∙ ap (λ (e : Entry). value_with (spelling (state_of after).top) (old.entries ++ e ∷ []) old)
      (entry_is old.dim old.tail old.body fields made p planned)

  pub has_made : (a : Applied) → a ≡ Done made → (new : SessionValue) → new ≡ value_after p.patches p.append old → HasMade a fields old new
  has_made a done new is = subst (HasMade a fields old) (sym is) (record {
    accepted = done ∙ ap Done (sym are);
    done = done_after ∙ sym (ap (λ (x : Applied). push_made x (state_of old)) done);
    value = value_is;
  })
