-- The copy of one element's part, taken by itself: what it has, and what refuses it.
use Rattle.std.specs.Prelude.{ℕ, ◌≡◌, List, ◌++◌, Option, Some, None, Result, Ok, Err}
use Rattle.std.specs.Option.{option_or}
use Rattle.dgn_drawing.specs.Values.{Displacement}
use Rattle.dgn_drawing.specs.Element.{Element}
use Rattle.dgn_drawing.specs.Nesting.{Forest}
use Rattle.edit_ops.specs.declared.causes.cause.Cause.{Cause}
use Rattle.edit_ops.specs.declared.causes.edit_fault.EditFault.{EditFault}
use Rattle.edit_ops.specs.declared.causes.edit_fault.EditFault.TheVariants as faults
use Rattle.edit_ops.specs.declared.causes.test.Test.TheVariants as tests
use Rattle.edit_ops.specs.Trees.{live_tree}
use Rattle.edit_ops.specs.Causes.{first_cause}
use Rattle.edit_ops.specs.Applying.{copied}
use Rattle.edit_ops.specs.Rules.{displacing}

-- the copy of the part of element n, with its live elements displaced
abbrev pub tree_copy : ℕ → List Element → Displacement → ℕ → Forest Element
tree_copy dim es by n = copied (displacing dim by) es n

-- what refuses it: a live element of which not all coordinates are read, or else one that would leave the plane
abbrev pub copy_cause : ℕ → List Element → Displacement → ℕ → Option Cause
copy_cause dim es by n = option_or (first_cause dim tests.Moves (live_tree es n)) (first_cause dim (tests.StaysOnPlane by) (live_tree es n))

-- this is the cause that is told; want of memory says nothing of it
abbrev pub IsStopped : Option Cause → EditFault → Type 0
IsStopped first (faults.Refused cause) = first ≡ Some cause
IsStopped first faults.Memory = Unit {0}

-- nothing stood against it, and this was put behind what was there; or that is the first cause
abbrev pub AddsUnless : {A : Type 0} → Option Cause → List A → Result (Unit {0}) EditFault → List A → List A → Type 0
AddsUnless cause added (Ok x) old new = (new ≡ old ++ added) × (cause ≡ None)
AddsUnless cause added (Err fault) old new = IsStopped cause fault
