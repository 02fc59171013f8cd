-- What the answer of a plan says.
use Rattle.std.specs.Prelude.{ℕ, ◌≡◌, List, ◌++◌, length, drop, Result, Ok, Err}
use Rattle.dgn_drawing.specs.declared.edit.Edit.{Edit}
use Rattle.dgn_drawing.specs.declared.fence_edit.FenceEdit.{FenceEdit}
use Rattle.dgn_drawing.specs.Element.{Element}
use Rattle.dgn_drawing.specs.Spelling.{spelling}
use Rattle.edit_ops.specs.declared.causes.edit_fault.EditFault.{EditFault}
use Rattle.edit_ops.specs.declared.causes.edit_fault.EditFault.TheVariants as faults
use Rattle.edit_ops.specs.declared.types.plan.Plan.{Plan}
use Rattle.edit_ops.specs.Applying.{Applied, Done, Refused, apply}
use Rattle.edit_ops.specs.Fields.{filled}
use Rattle.edit_ops.specs.EditedFields.{edited_fields}
use Rattle.edit_ops.specs.Fenced.{apply_all, fenced_fields}

-- the edit is done, and the plan is its fields with the bytes that the result has there, and the bytes of the
-- result behind the old length
pub record IsPlan (dim : ℕ) (es : List Element) (rest : ℕ) (e : Edit) (p : Plan) : Type 0 where
  pub made : List Element
  pub done : apply dim es rest e ≡ Done made
  pub patches : p.patches ≡ filled (spelling made) (edited_fields dim es e)
  pub append : p.append ≡ drop (length (spelling es)) (spelling made)

-- it stands behind another plan: the patches and the bytes to append of that one come before its own
pub record IsPlanBehind (dim : ℕ) (es : List Element) (rest : ℕ) (e : Edit) (before after : Plan) : Type 0 where
  pub own : Plan
  pub is : IsPlan dim es rest e own
  pub patches : after.patches ≡ before.patches ++ own.patches
  pub append : after.append ≡ before.append ++ own.append

-- the same of an edit of these roots
pub record IsFencePlan (dim : ℕ) (es : List Element) (rest : ℕ) (e : FenceEdit) (ns : List ℕ) (p : Plan) : Type 0 where
  pub made : List Element
  pub done : apply_all dim es rest e ns ≡ Done made
  pub patches : p.patches ≡ filled (spelling made) (fenced_fields dim es e ns)
  pub append : p.append ≡ drop (length (spelling es)) (spelling made)

-- the edit is refused with the cause that is told; want of memory says nothing of it
abbrev pub IsRefused : Applied → EditFault → Type 0
IsRefused applied (faults.Refused cause) = applied ≡ Refused cause
IsRefused applied faults.Memory = Unit {0}

-- the edit is done, and its plan was put behind another one; or it is refused with the cause that is told
abbrev pub PlansUnless : ℕ → List Element → ℕ → Edit → Result (Unit {0}) EditFault → Plan → Plan → Type 0
PlansUnless dim es rest e (Ok x) before after = IsPlanBehind dim es rest e before after
PlansUnless dim es rest e (Err fault) before after = IsRefused (apply dim es rest e) fault
