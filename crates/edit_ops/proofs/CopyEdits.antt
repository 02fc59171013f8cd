-- What the edit leaves that copies a part: the elements as they were and the copy behind them.
use Rattle.std.proofs.Common.{◌≡◌, ℕ, ◌+◌, List, [], ◌++◌, length, refl, sym, ap, ◌∙◌}
use Rattle.std.specs.Prelude.{None}
use Rattle.std.specs.List.{AllByRecursion}
use Rattle.dgn_drawing.specs.declared.edit.Edit.TheVariants as edit
use Rattle.dgn_drawing.specs.Values.{Displacement, IsShift}
use Rattle.dgn_drawing.specs.Element.{Element}
use Rattle.dgn_drawing.specs.Spelling.{spelling}
use Rattle.dgn_drawing.specs.WellFormed.{IsDimension, IsWellFormed}
use Rattle.dgn_drawing.specs.Rows.{row_of}
use Rattle.dgn_drawing.specs.Changes.{shift}
use Rattle.dgn_drawing.specs.Nesting.{flat, forest}
use Rattle.dgn_drawing.specs.Opening.{BeginsWithTcb}
use Rattle.nest_tree.proofs.NestingSteps.{flat-forest}
use Rattle.edit_ops.specs.declared.causes.test.Test.TheVariants as tests
use Rattle.edit_ops.specs.Trees.{tree_at, live_map, live_tree}
use Rattle.edit_ops.specs.Causes.{first_cause, other_axes, too_long, bytes_appended, cause_of}
use Rattle.edit_ops.specs.Applying.{copied, changed_forest}
use Rattle.edit_ops.specs.Rules.{displacing}
use Rattle.edit_ops.specs.Written.{IsReady}
use Rattle.edit_ops.proofs.PartPlace.{flat-joined}
use Rattle.edit_ops.proofs.AcceptedEdit.{IsAccepted, accepted, named_cause, none_both}
use Rattle.edit_ops.proofs.KeptRules.{Keeps, edit_keeps}
use Rattle.edit_ops.proofs.CopiedPart.{freed_first, copied_good, copied_long, copied_nests}
use Rattle.edit_ops.proofs.WhatIsLeft.{IsLeft, behind_left}

-- the elements that a copy leaves
pub copy_leaves : (dim : ℕ) (es : List Element) (n : ℕ) (by : Displacement) → flat (changed_forest dim es (edit.Copy n by)) ≡ es
    ++ flat (copied (displacing dim by) es n)
copy_leaves dim es n by =
    flat-joined (forest row_of es) (copied (displacing dim by) es n)
    ∙ ap (λ (l : List Element). l ++ flat (copied (displacing dim by) es n)) (flat-forest row_of es)

-- a copy that isn't refused leaves a file that isn't too long
pub copy_short : (dim : ℕ) (es : List Element) (rest n : ℕ) (by : Displacement) → cause_of dim es rest (edit.Copy n by) ≡ None
    → too_long (length (spelling es) + rest + bytes_appended es (edit.Copy n by)) ≡ None
copy_short dim es rest n by none =
    let causes = (named_cause dim es rest (edit.Copy n by) n refl none).2 in
    let a = none_both (other_axes dim by.axes) _ causes in
    let b = none_both (first_cause dim tests.Moves (live_tree es n)) _ a.1 in
    let c = none_both (first_cause dim (tests.StaysOnPlane by) (live_tree es n)) _ b.1 in
    (none_both (too_long (length (spelling es) + rest + bytes_appended es (edit.Copy n by))) None c.1).0

-- what is left with a copy that isn't refused, which is as long as the part
module _ (dim : ℕ) (axes : IsDimension dim) (es : List Element) (each : AllByRecursion (IsWellFormed dim) es) (first : BeginsWithTcb es) (rest n : ℕ)
    (by : Displacement) (fits : IsShift by) (none : cause_of dim es rest (edit.Copy n by) ≡ None) where
  -- the row of a copy keeps what it has to
  keeps : Keeps dim (displacing dim by) (IsReady dim (edit.Copy n by))
  keeps = edit_keeps dim axes (edit.Copy n by) fits

  able : IsAccepted dim es (edit.Copy n by) n
  able = accepted dim es rest (edit.Copy n by) n refl each first none

  pub copy_long : length (spelling (flat (copied (displacing dim by) es n))) ≡ bytes_appended es (edit.Copy n by)
  copy_long = copied_long dim es (displacing dim by) (IsReady dim (edit.Copy n by)) keeps n each able.able

  pub copy_left : IsLeft dim es [] [] (flat (copied (displacing dim by) es n)) (changed_forest dim es (edit.Copy n by))
  copy_left =
      behind_left dim es (flat (copied (displacing dim by) es n)) (changed_forest dim es (edit.Copy n by)) each first (copy_leaves dim es n by)
      (copied_nests dim es (displacing dim by) (IsReady dim (edit.Copy n by)) keeps n each able.able able.known able.later able.head able.there able.head_able.0)
      (copied_good dim es (displacing dim by) (IsReady dim (edit.Copy n by)) keeps n each able.able)
      (freed_first (live_map (λ member. member.deleted) (shift dim by) (tree_at n (forest row_of es))))
