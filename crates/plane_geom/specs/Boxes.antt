-- Boxes of the plane, each given by its low and its high corner, and what lies in them.
use Rattle.std.specs.Prelude.{◌≤ℤ◌, Bool, ◌&&◌, ◌||◌, int_lt, List}
use Rattle.std.specs.List.{AllByRecursion}
use Rattle.plane_geom.specs.declared.pt.Pt.{Pt}
use Rattle.plane_geom.specs.Turns.{turn}
use Rattle.plane_geom.specs.Touches.{on_one_side}

-- p lies in the box
pub record IsInBox (low high p : Pt) : Type 0 where
  pub left : low.x ≤ℤ p.x
  pub right : p.x ≤ℤ high.x
  pub below : low.y ≤ℤ p.y
  pub above : p.y ≤ℤ high.y

-- so do all of these
abbrev pub AreInBox : Pt → Pt → List Pt → Type 0
AreInBox low high ps = AllByRecursion (IsInBox low high) ps

-- whether one of two boxes lies left of the other, right of it, below it or above it
unfoldable pub lies_apart : Pt → Pt → Pt → Pt → Bool
lies_apart low high other_low other_high =
    (int_lt high.x other_low.x || int_lt other_high.x low.x) || (int_lt high.y other_low.y || int_lt other_high.y low.y)

-- the two corners that are neither the low nor the high one
abbrev pub low_right : Pt → Pt → Pt
low_right low high = record { x = high.x; y = low.y }

abbrev pub high_left : Pt → Pt → Pt
high_left low high = record { x = low.x; y = high.y }

-- whether all four corners of a box lie strictly on one side of the line through r and s
unfoldable pub lies_beside : Pt → Pt → Pt → Pt → Bool
lies_beside low high r s =
    on_one_side (turn r s low) (turn r s high) && on_one_side (turn r s low) (turn r s (low_right low high)) && on_one_side (turn r s low)
    (turn r s (high_left low high))
