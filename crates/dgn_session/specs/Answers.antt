-- What the answers say of an edit of all that a fence chooses.
use Rattle.std.specs.Prelude.{ℕ, ◌≡◌, length, Option, Some, None, option_map}
use Rattle.dgn_drawing.specs.declared.fence_edit.FenceEdit.{FenceEdit}
use Rattle.dgn_drawing.specs.declared.mode.Mode.{Mode}
use Rattle.edit_ops.specs.Applying.{Applied, Done, Refused}
use Rattle.edit_ops.specs.declared.causes.edit_fault.EditFault.{EditFault}
use Rattle.edit_ops.specs.declared.causes.edit_fault.EditFault.TheVariants as edit
use Rattle.dgn_session.specs.State.{State, selection, fence_applied, after_fence_edit}
use Rattle.dgn_session.specs.declared.fence_edit_fault.FenceEditFault.{FenceEditFault}
use Rattle.dgn_session.specs.declared.fence_edit_fault.FenceEditFault.TheVariants as faults

-- it was done, of so many trees: the machine accepts it, and goes on to this state
pub record IsDoneToAll (mode : Mode) (e : FenceEdit) (count : ℕ) (old new : State) : Type 0 where
  pub accepted : fence_applied mode e old ≡ Some (Done new.top)
  pub state : new ≡ after_fence_edit mode e old
  pub count_is : Some count ≡ option_map length (selection mode old)

-- it is refused: no fence is set, or with the cause that is told; want of memory says
-- nothing of it
abbrev pub IsFenceRefused : Option Applied → FenceEditFault → Type 0
IsFenceRefused applied faults.NoFence = applied ≡ None
IsFenceRefused applied (faults.Refused cause) = applied ≡ Some (Refused cause)
IsFenceRefused applied faults.Memory = Unit {0}

-- what is wrong with the plan of such an edit is wrong with the edit
abbrev pub fault_of_all : EditFault → FenceEditFault
fault_of_all (edit.Refused cause) = faults.Refused cause
fault_of_all edit.Memory = faults.Memory
