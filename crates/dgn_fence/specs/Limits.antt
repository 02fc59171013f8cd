-- Bounds of points: a box by its low and its high corner. Contracts of private functions alone cite this.
use Rattle.std.specs.Prelude.{◌≡◌, ◌≤◌, int_lt, int_le, Bool, false, ◌&&◌, ◌||◌, if◌then◌else◌, Option, Some, None, List, [], ◌∷◌, length, map}
use Rattle.std.specs.List.{fold}
use Rattle.std.specs.Int.{int_min, int_max}
use Rattle.std.specs.Ordering.{int_eq}
use Rattle.range_code.specs.declared.Box3.{Box3}
use Rattle.plane_geom.specs.declared.pt.Pt.{Pt}
use Rattle.plane_geom.specs.Boxes.{lies_apart, lies_beside}
use Rattle.dgn_drawing.specs.declared.types.item.Item.{Item}
use Rattle.dgn_drawing.specs.declared.types.item_body.ItemBody.{ItemBody}
use Rattle.dgn_fence.specs.declared.bounds.Bounds.{Bounds}
use Rattle.dgn_fence.specs.Segments.{plane_point}

-- those of one point
abbrev pub at : Pt → Bounds
at p = record { low = p; high = p }

-- on each axis the lesser and the greater number of two points
abbrev pub least : Pt → Pt → Pt
least p q = record { x = int_min p.x q.x; y = int_min p.y q.y }

abbrev pub greatest : Pt → Pt → Pt
greatest p q = record { x = int_max p.x q.x; y = int_max p.y q.y }

-- those of a point more
abbrev pub grown : Bounds → Pt → Bounds
grown b p = record { low = least b.low p; high = greatest b.high p }

-- those of some points, if there are any
abbrev pub bounds_of : List Pt → Option Bounds
bounds_of [] = None
bounds_of (p ∷ points) = Some (fold grown (at p) points)

-- those of the segments of an item, if it has any
abbrev pub body_bounds : Box3 → ItemBody → Option Bounds
body_bounds range (ItemBody.Path points) = bounds_of (map plane_point points)
body_bounds range (ItemBody.Text origin chars) = Some (grown (at (plane_point range.lo)) (plane_point range.hi))
body_bounds range ItemBody.Boxed = Some (grown (at (plane_point range.lo)) (plane_point range.hi))
body_bounds range (ItemBody.Cell name origin) = None
body_bounds range (ItemBody.Node origin) = None
body_bounds range ItemBody.Group = None

abbrev pub extent_of : Item → Option Bounds
extent_of item = body_bounds item.range item.body

-- whether bounds hold a point
abbrev pub is_held : Bounds → Pt → Bool
is_held b p = (int_le b.low.x p.x && int_le p.x b.high.x) && (int_le b.low.y p.y && int_le p.y b.high.y)

-- whether bounds lie apart from others, and whether all that they hold misses the edge from r to s: the bounds of the
-- edge lie apart, or the bounds lie beside its line
abbrev pub is_apart : Bounds → Bounds → Bool
is_apart a b = lies_apart a.low a.high b.low b.high

abbrev pub misses : Bounds → Pt → Pt → Bool
misses b r s = is_apart b (grown (at r) s) || lies_beside b.low b.high r s

-- whether bounds lie strictly inside others
abbrev pub is_enclosed : Bounds → Bounds → Bool
is_enclosed a b = (int_lt b.low.x a.low.x && int_lt a.high.x b.high.x) && (int_lt b.low.y a.low.y && int_lt a.high.y b.high.y)

-- whether of four corners the sides stand upright and lie level in turn, from a standing one on
abbrev pub stands : Pt → Pt → Pt → Pt → Bool
stands a b c d = int_eq a.x b.x && (int_eq b.y c.y && (int_eq c.x d.x && int_eq d.y a.y))

-- whether corners are, in order, those of a rectangle with sides along the axes, which may be flat
abbrev pub is_upright : List Pt → Bool
is_upright (a ∷ b ∷ c ∷ d ∷ []) = stands a b c d || stands b c d a
is_upright other = false

-- those of an item, beside those of a fence: none where they lie apart
abbrev pub near_bounds : Option Bounds → Option Bounds → Option Bounds
near_bounds None other = None
near_bounds (Some fence) None = None
near_bounds (Some fence) (Some item) = if is_apart item fence then None else Some item

-- what a fence keeps: 3 to 256 corners, their bounds, and whether they are those of an upright rectangle
pub record IsFence (corners : List Pt) (bounds : Bounds) (upright : Bool) : Type 0 where
  pub least : 3 ≤ length corners
  pub most : length corners ≤ 256
  pub bounded : bounds_of corners ≡ Some bounds
  pub shaped : upright ≡ is_upright corners
