-- What an edit that is done leaves opens as a drawing of the same dimension, keeps the limit of a design file, and
-- differs from what was there in the edited fields and by what is appended; and its plan is what it puts and appends.
use Rattle.std.proofs.Common.{◌≡◌, ℕ, ◌+◌, List, ◌++◌, length, drop, refl, sym, ap, ◌∙◌, subst, arith}
use Rattle.std.specs.Prelude.{None}
use Rattle.dgn_drawing.specs.declared.edit.Edit.{Edit}
use Rattle.dgn_drawing.specs.Element.{Element}
use Rattle.dgn_drawing.specs.Spelling.{spelling}
use Rattle.dgn_drawing.specs.Nesting.{flat}
use Rattle.dgn_drawing.specs.Opening.{Opens}
use Rattle.elem_index.proofs.Places.{opened_axes}
use Rattle.edit_ops.specs.declared.types.plan.Plan.{Plan}
use Rattle.edit_ops.specs.Causes.{cause_of, bytes_appended}
use Rattle.edit_ops.specs.Applying.{changed_forest, IsEdit}
use Rattle.edit_ops.specs.Fields.{filled}
use Rattle.edit_ops.specs.EditedFields.{edited_fields}
use Rattle.edit_ops.specs.Planned.{IsPlan}
use Rattle.edit_ops.specs.Laws.{ChangesFields, ChangesItsFields, EditedDrawingsOpen, EditedDrawingsFit, EditsChangeTheirFields}
use Rattle.edit_ops.proofs.AcceptedEdit.{done_is, done_without_cause}
use Rattle.edit_ops.proofs.WhatIsLeft.{left_behind, left_long, left_opens, left_fill, left_changes}
use Rattle.edit_ops.proofs.EditsLeft.{own_puts, own_bytes, IsEdited, edited, edit_short}

module _ (f : List ℕ) (dim : ℕ) (es : List Element) (t : List ℕ) (rest : ℕ) (e : Edit) (fits : IsEdit e) (opens : Opens f dim es t)
    (none : cause_of dim es rest e ≡ None) where
  -- what is left
  own : IsEdited dim es e
  own = edited dim (opened_axes f dim es t opens) es opens.each opens.first rest e fits none

  abbrev new : List Element
  new = flat (changed_forest dim es e)

  own_opens : Opens (spelling new ++ t) dim new t
  own_opens = left_opens dim es (own_puts dim es e) (edited_fields dim es e) own.more (changed_forest dim es e) own.left f t opens

  pub own_long : length (spelling (flat (changed_forest dim es e))) ≡ length (spelling es) + bytes_appended es e
  own_long = left_long dim es (own_puts dim es e) (edited_fields dim es e) own.more (changed_forest dim es e) own.left
      ∙ ap (λ (k : ℕ). length (spelling es) + k) own.long

  own_changes : ChangesItsFields dim es e new
  own_changes = subst (λ (k : ℕ). ChangesFields es new (edited_fields dim es e) k (changed_forest dim es e)) own.long
      (left_changes dim es (own_puts dim es e) (edited_fields dim es e) own.more (changed_forest dim es e) own.left)

  -- what it puts is its fields with the bytes of the result, and what it appends stands behind the old length
  pub own_fill : own_puts dim es e ≡ filled (spelling (flat (changed_forest dim es e))) (edited_fields dim es e)
  own_fill = left_fill dim es (own_puts dim es e) (edited_fields dim es e) own.more (changed_forest dim es e) own.left

  pub own_behind : drop (length (spelling es)) (spelling (flat (changed_forest dim es e))) ≡ own_bytes dim es e
  own_behind = left_behind dim es (own_puts dim es e) (edited_fields dim es e) own.more (changed_forest dim es e) own.left ∙ own.bytes

  -- so both are its plan
  pub edit_plan : (p : Plan) → p.patches ≡ own_puts dim es e → p.append ≡ own_bytes dim es e → IsPlan dim es rest e p
  edit_plan p patches append = record {
    made = new;
    done = done_without_cause dim es rest e none;
    patches = patches ∙ own_fill;
    append = append ∙ sym own_behind;
  }

-- what an edit that is done leaves opens in the same dimension, with the same tail
pub edited_opens : EditedDrawingsOpen
edited_opens f dim es t rest e made fits opens done =
    let is = done_is dim es rest e made done in
    subst (λ (l : List Element). Opens (spelling l ++ t) dim l t) (sym is.1) (own_opens f dim es t rest e fits opens is.0)

-- it keeps the limit of a design file
pub edited_fits : EditedDrawingsFit
edited_fits f dim es t rest e made fits opens done few =
    let is = done_is dim es rest e made done in
    omega (arith, ap (λ (l : List Element). length (spelling l)) is.1, own_long f dim es t rest e fits opens is.0, edit_short dim es rest e is.0 few)

-- it differs in the edited fields alone, is longer by whole trees, and its trees are the changed ones
pub changes_fields : EditsChangeTheirFields
changes_fields f dim es t rest e made fits opens done =
    let is = done_is dim es rest e made done in
    subst (ChangesItsFields dim es e) (sym is.1) (own_changes f dim es t rest e fits opens is.0)
