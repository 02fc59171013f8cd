-- The test of two segments holds exactly where they have a common point. Two segments touch whichever is named first,
-- and from whichever end they are read. What lies apart or beside needs no test, and a polygon has nothing outside of a
-- box that holds its corners.
use Rattle.std.specs.Prelude.{◌↔◌, IsTrue, List}
use Rattle.plane_geom.specs.declared.pt.Pt.{Pt}
use Rattle.plane_geom.specs.Segments.{Touch}
use Rattle.plane_geom.specs.Touches.{touches}
use Rattle.plane_geom.specs.Boxes.{IsInBox, AreInBox, lies_apart, lies_beside}
use Rattle.plane_geom.specs.Polygons.{is_within}

-- the test that computes, and a common point
abbrev pub TestTells : Type 0
TestTells = (p q r s : Pt) → IsTrue (touches p q r s) ↔ Touch p q r s

-- the segments exchanged
abbrev pub SegmentsExchange : Type 0
SegmentsExchange = (p q r s : Pt) → Touch p q r s ↔ Touch r s p q

-- the ends of the first exchanged, and those of the second
abbrev pub EndsExchange : Type 0
EndsExchange = (p q r s : Pt) → (Touch p q r s ↔ Touch q p r s) × (Touch p q r s ↔ Touch p q s r)

-- no segment within a box touches one within a box apart from it
abbrev pub ApartIsUntouched : Type 0
ApartIsUntouched =
    (low high other_low other_high p q r s : Pt) → IsTrue (lies_apart low high other_low other_high)
    → IsInBox low high p → IsInBox low high q → IsInBox other_low other_high r → IsInBox other_low other_high s → ¬ Touch p q r s

-- nor one beside whose line the box lies
abbrev pub BesideIsUntouched : Type 0
BesideIsUntouched =
    (low high r s p q : Pt) → IsTrue (lies_beside low high r s) → IsInBox low high p → IsInBox low high q → ¬ Touch p q r s

-- a point within a polygon lies in each box that holds its corners
abbrev pub WithinIsInBoxes : Type 0
WithinIsInBoxes =
    (low high p : Pt) (polygon : List Pt) → AreInBox low high polygon → IsTrue (is_within p polygon) → IsInBox low high p
