-- Which items a fence takes, by their parts. A part is the segments of an item that has some; the fence is
-- the list of its corners.
use Rattle.std.specs.Prelude.{Bool, true, false, not, ◌&&◌, ◌||◌, Option, Some, None, List, [], ◌∷◌, map, filter}
use Rattle.std.specs.List.{list_any, list_all}
use Rattle.plane_geom.specs.declared.pt.Pt.{Pt}
use Rattle.plane_geom.specs.Touches.{touches}
use Rattle.plane_geom.specs.Polygons.{edges, is_within}
use Rattle.dgn_drawing.specs.declared.mode.Mode.{Mode}
use Rattle.dgn_drawing.specs.declared.types.item.Item.{Item}
use Rattle.dgn_fence.specs.Segments.{segments_of}

-- whether some of these segments touches the edge
unfoldable pub any_touches : List (Pt × Pt) → Pt × Pt → Bool
any_touches segments edge = list_any (λ s. touches s.0 s.1 edge.0 edge.1) segments

-- whether some of them touches an edge of the fence
unfoldable pub touches_fence : List Pt → List (Pt × Pt) → Bool
touches_fence fence segments = list_any (any_touches segments) (edges fence)

-- the first point: the start of the first segment
abbrev pub first_point_of : List (Pt × Pt) → Option Pt
first_point_of [] = None
first_point_of (s ∷ segments) = Some s.0

-- whether a first point is within the fence
abbrev pub starts_within : List Pt → Option Pt → Bool
starts_within fence None = false
starts_within fence (Some p) = is_within p fence

unfoldable pub begins_within : List Pt → List (Pt × Pt) → Bool
begins_within fence segments = starts_within fence (first_point_of segments)

-- a part is inside where its first point is within the fence and it touches no edge
unfoldable pub is_inside : List Pt → List (Pt × Pt) → Bool
is_inside fence part = begins_within fence part && not (touches_fence fence part)

-- it overlaps where its first point is within the fence or it touches an edge
unfoldable pub overlaps : List Pt → List (Pt × Pt) → Bool
overlaps fence part = begins_within fence part || touches_fence fence part

-- whether a list has an element
abbrev pub has_some : {A : Type 0} → List A → Bool
has_some [] = false
has_some (a ∷ as') = true

-- the parts of items
abbrev pub parts : List Item → List (List (Pt × Pt))
parts items = filter has_some (map segments_of items)

-- whether the fence takes the items in a mode, for which they have a part: all parts are inside, some part overlaps, or
-- none does
abbrev pub takes : Mode → List Pt → List Item → Bool
takes Mode.Inside fence items = has_some (parts items) && list_all (is_inside fence) (parts items)
takes Mode.Overlap fence items = has_some (parts items) && list_any (overlaps fence) (parts items)
takes Mode.Void fence items = has_some (parts items) && not (list_any (overlaps fence) (parts items))
