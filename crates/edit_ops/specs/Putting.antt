-- What is known of a live element before an edit is put into it, and what only its sums tell.
use Rattle.std.specs.Prelude.{ℕ, ◌≡◌, List, Option, None, IsTrue, IsFalse}
use Rattle.std.specs.List.{flat_map}
use Rattle.dgn_layout.specs.Classes.{class_of, is_silent}
use Rattle.dgn_layout.specs.Spots.{spots_of, has_spots}
use Rattle.dgn_layout.specs.declared.spot.Spot.{Spot}
use Rattle.dgn_layout.specs.declared.TheConstants.{END_MARK}
use Rattle.dgn_drawing.specs.declared.edit.Edit.{Edit}
use Rattle.dgn_drawing.specs.declared.edit.Edit.TheVariants as edit
use Rattle.dgn_drawing.specs.Element.{Element}
use Rattle.dgn_drawing.specs.Spelling.{spell}
use Rattle.edit_ops.specs.declared.causes.cause.Cause.{Cause}
use Rattle.edit_ops.specs.declared.causes.test.Test.TheVariants as tests
use Rattle.edit_ops.specs.Trees.{Live}
use Rattle.edit_ops.specs.Causes.{first_cause}

-- the edit may be put into this live element: what it changes is read
abbrev pub MayBePut : Edit → Element → Type 0
MayBePut (edit.Move n by) e = IsTrue (has_spots (class_of e.kind))
MayBePut (edit.Copy n by) e = IsTrue (has_spots (class_of e.kind))
MayBePut (edit.Sym n change) e = IsFalse (is_silent (class_of e.kind))
MayBePut (edit.Delete n) e = ¬ (e.kind ≡ END_MARK)
MayBePut (edit.Append new) e = Unit {0}

-- what the sums have against the first of these that a move or a copy would have leave the design plane
abbrev pub leaving : ℕ → Edit → List Live → Option Cause
leaving dim (edit.Move n by) vs = first_cause dim (tests.StaysOnPlane by) vs
leaving dim (edit.Copy n by) vs = first_cause dim (tests.StaysOnPlane by) vs
leaving dim other vs = None

-- the coordinate fields of these live elements, one element's behind the other's
abbrev pub all_spots : ℕ → List Live → List Spot
all_spots dim vs = flat_map (λ v. spots_of dim v.element.kind (spell v.element)) vs
