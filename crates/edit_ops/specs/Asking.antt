-- What a test has against one element of a drawing, by its number; and when it is asked whether elements stay on
-- the plane: where each can be moved, so that all their coordinates are read.
use Rattle.std.specs.Prelude.{ℕ, ◌≡◌, ◌&&◌, not, Bool, IsTrue, List, Option, Some, None}
use Rattle.elem_head.specs.Head.{properties_of}
use Rattle.dgn_layout.specs.Classes.{class_of, is_silent}
use Rattle.dgn_layout.specs.Spots.{has_spots}
use Rattle.dgn_drawing.specs.Element.{Element}
use Rattle.edit_ops.specs.declared.causes.cause.Cause.{Cause}
use Rattle.edit_ops.specs.declared.causes.test.Test.{Test}
use Rattle.edit_ops.specs.declared.causes.test.Test.TheVariants as tests
use Rattle.edit_ops.specs.Trees.{Live}
use Rattle.edit_ops.specs.Causes.{cause_at, first_cause, says_locked}

-- what a test has against element m, where there is one
abbrev pub cause_in : ℕ → Test → ℕ → Option Element → Option Cause
cause_in dim test m (Some e) = cause_at dim test m e
cause_in dim test m None = None

-- the test may be asked of these elements
abbrev pub MayBeAsked : ℕ → Test → List Live → Type 0
MayBeAsked dim (tests.StaysOnPlane by) vs = first_cause dim tests.Moves vs ≡ None
MayBeAsked dim other vs = Unit {0}

-- and of this one
abbrev pub MayBeAskedOf : Test → Option Element → Type 0
MayBeAskedOf (tests.StaysOnPlane by) (Some e) = IsTrue (has_spots (class_of e.kind))
MayBeAskedOf test other = Unit {0}

-- whether the bytes of an element of that type say that it is locked: bit 8 of its properties, where it has any
abbrev pub locked_in : ℕ → List ℕ → Bool
locked_in kind b = not (is_silent (class_of kind)) && says_locked (properties_of b)
