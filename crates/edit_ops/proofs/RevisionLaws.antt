-- What a revision that is done leaves opens as a drawing of the same dimension, keeps the limit of a design file, and
-- differs from what was there in its fields, which are apart, and by what it makes behind the drawing; and its plan is what
-- its row puts and that.
use Rattle.std.proofs.Common.{◌≡◌, ℕ, ◌+◌, List, ◌++◌, length, refl, sym, ap, ◌∙◌, subst, arith}
use Rattle.std.specs.Prelude.{Option, None, Some}
use Rattle.dgn_drawing.specs.Element.{Element}
use Rattle.dgn_drawing.specs.Spelling.{spelling}
use Rattle.dgn_drawing.specs.Nesting.{flat}
use Rattle.dgn_drawing.specs.Opening.{Opens}
use Rattle.elem_index.proofs.Places.{opened_axes}
use Rattle.dgn_revision.specs.declared.revision.Revision.{Revision}
use Rattle.dgn_revision.specs.Revisions.{IsRevision}
use Rattle.edit_ops.specs.declared.causes.revise_cause.ReviseCause.{ReviseCause}
use Rattle.edit_ops.specs.declared.types.plan.Plan.{Plan}
use Rattle.edit_ops.specs.Laws.{ChangesFields}
use Rattle.edit_ops.specs.Written.{part_puts}
use Rattle.edit_ops.specs.RevisionRules.{revision_rule, made_behind}
use Rattle.edit_ops.specs.RevisionCauses.{revise_cause}
use Rattle.edit_ops.specs.Revised.{Makes, revised_unless, revise, revised_fields, revised_forest, IsRevisionPlan}
use Rattle.edit_ops.specs.RevisionLaws.{RevisedDrawingsOpen, RevisedDrawingsFit, RevisionsChangeTheirFields, RevisedFieldsAreApart}
use Rattle.edit_ops.proofs.WhatIsLeft.{IsLeft, left_behind, left_long, left_opens, left_fill, left_changes, left_apart}
use Rattle.edit_ops.proofs.RevisionsLeft.{revised, revision_short}

-- what is done has no cause, and leaves the elements of the changed trees
made_unless : (c : Option ReviseCause) (left made : List Element) → revised_unless c left ≡ Makes made → (c ≡ None) × (made ≡ left)
made_unless None left made is = let x = is in (refl, cc)
made_unless (Some c) left made is = absurd (let x = is in cc)

pub made_is : (dim : ℕ) (es : List Element) (rest n : ℕ) (r : Revision) (made : List Element) → revise dim es rest n r ≡ Makes made
    → (revise_cause dim es rest n r ≡ None) × (made ≡ flat (revised_forest dim es n r))
made_is dim es rest n r made done = made_unless (revise_cause dim es rest n r) (flat (revised_forest dim es n r)) made done

module _ (f : List ℕ) (dim : ℕ) (es : List Element) (t : List ℕ) (rest n : ℕ) (r : Revision) (fits : IsRevision r) (opens : Opens f dim es t)
    (none : revise_cause dim es rest n r ≡ None) where
  -- what is left
  own : IsLeft dim es (part_puts (revision_rule dim es n r) es n) (revised_fields dim es n r) (made_behind dim es n r) (revised_forest dim es n r)
  own = revised dim (opened_axes f dim es t opens) es opens.each opens.first rest n r fits none

  own_opens : Opens (spelling (flat (revised_forest dim es n r)) ++ t) dim (flat (revised_forest dim es n r)) t
  own_opens = left_opens dim es (part_puts (revision_rule dim es n r) es n) (revised_fields dim es n r) (made_behind dim es n r) (revised_forest dim es n r) own f t opens

  own_long : length (spelling (flat (revised_forest dim es n r))) ≡ length (spelling es) + length (spelling (made_behind dim es n r))
  own_long = left_long dim es (part_puts (revision_rule dim es n r) es n) (revised_fields dim es n r) (made_behind dim es n r) (revised_forest dim es n r) own

  own_changes : ChangesFields es (flat (revised_forest dim es n r)) (revised_fields dim es n r) (length (spelling (made_behind dim es n r)))
      (revised_forest dim es n r)
  own_changes = left_changes dim es (part_puts (revision_rule dim es n r) es n) (revised_fields dim es n r) (made_behind dim es n r) (revised_forest dim es n r) own

  -- its plan is what its row puts, and what it makes behind the drawing
  pub revision_plan : (p : Plan) → p.patches ≡ part_puts (revision_rule dim es n r) es n → p.append ≡ spelling (made_behind dim es n r)
      → IsRevisionPlan dim es rest n r p
  revision_plan p patches append = record {
    made = flat (revised_forest dim es n r);
    done = ap (λ (c : Option ReviseCause). revised_unless c (flat (revised_forest dim es n r))) none;
    patches = patches
        ∙ left_fill dim es (part_puts (revision_rule dim es n r) es n) (revised_fields dim es n r) (made_behind dim es n r) (revised_forest dim es n r) own;
    append = append
        ∙ sym (left_behind dim es (part_puts (revision_rule dim es n r) es n) (revised_fields dim es n r) (made_behind dim es n r) (revised_forest dim es n r) own);
  }

-- what a revision that is done leaves opens in the same dimension, with the same tail
pub revised_opens : RevisedDrawingsOpen
revised_opens f dim es t rest n r made fits opens done =
    let is = made_is dim es rest n r made done in
    subst (λ (l : List Element). Opens (spelling l ++ t) dim l t) (sym is.1) (own_opens f dim es t rest n r fits opens is.0)

-- it keeps the limit of a design file
pub revised_fits : RevisedDrawingsFit
revised_fits f dim es t rest n r made fits opens done few =
    let is = made_is dim es rest n r made done in
    omega (arith, ap (λ (l : List Element). length (spelling l)) is.1, own_long f dim es t rest n r fits opens is.0, revision_short dim es rest n r is.0 few)

-- it differs in its fields alone, and by what it makes behind the drawing
pub revision_changes : RevisionsChangeTheirFields
revision_changes f dim es t rest n r made fits opens done =
    let is = made_is dim es rest n r made done in
    subst (λ (l : List Element). ChangesFields es l (revised_fields dim es n r) (length (spelling (made_behind dim es n r))) (revised_forest dim es n r)) (sym is.1)
    (own_changes f dim es t rest n r fits opens is.0)

-- its fields are apart
pub revised_apart : RevisedFieldsAreApart
revised_apart f dim es t rest n r made fits opens done =
    let is = made_is dim es rest n r made done in
    left_apart dim es (part_puts (revision_rule dim es n r) es n) (revised_fields dim es n r) (made_behind dim es n r) (revised_forest dim es n r)
    (own f dim es t rest n r fits opens is.0)
