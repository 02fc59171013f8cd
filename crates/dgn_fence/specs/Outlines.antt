-- The outline of an item: where its segments begin, and their bounds. Contracts of private functions alone cite this.
use Rattle.std.specs.Prelude.{Bool, not, if◌then◌else◌, Option, Some, None, false, List, [], ◌∷◌, map}
use Rattle.std.specs.List.{fold, list_all}
use Rattle.range_code.specs.declared.Box3.{Box3}
use Rattle.plane_geom.specs.declared.pt.Pt.{Pt}
use Rattle.plane_geom.specs.Polygons.{edges, is_within}
use Rattle.dgn_drawing.specs.declared.mode.Mode.{Mode}
use Rattle.dgn_drawing.specs.declared.types.item.Item.{Item}
use Rattle.dgn_drawing.specs.declared.types.item_body.ItemBody.{ItemBody}
use Rattle.dgn_fence.specs.declared.bounds.Bounds.{Bounds}
use Rattle.dgn_fence.specs.declared.outline.Outline.{Outline}
use Rattle.dgn_fence.specs.Segments.{plane_point}
use Rattle.dgn_fence.specs.Limits.{at, grown, is_apart, misses}

-- that of a path through these points, if there are any
abbrev pub path_outline : List Pt → Option Outline
path_outline [] = None
path_outline (p ∷ points) = Some (record { first = p; around = fold grown (at p) points })

-- that of a range
abbrev pub range_outline : Box3 → Outline
range_outline range = record { first = plane_point range.lo; around = grown (at (plane_point range.lo)) (plane_point range.hi) }

abbrev pub body_outline : Box3 → ItemBody → Option Outline
body_outline range (ItemBody.Path points) = path_outline (map plane_point points)
body_outline range (ItemBody.Text origin chars) = Some (range_outline range)
body_outline range ItemBody.Boxed = Some (range_outline range)
body_outline range (ItemBody.Cell name origin) = None
body_outline range (ItemBody.Node origin) = None
body_outline range ItemBody.Group = None

-- that of an item with segments; none where there is no item
abbrev pub outline_of : Option Item → Option Outline
outline_of None = None
outline_of (Some item) = body_outline item.range item.body

-- whether bounds miss all edges of a fence
abbrev pub misses_all : Bounds → List Pt → Bool
misses_all b fence = list_all (λ e. misses b e.0 e.1) (edges fence)

-- whether what has that outline begins within a fence, where its bounds miss all edges
abbrev pub begins_by_edges : List Pt → Outline → Option Bool
begins_by_edges fence o = if misses_all o.around fence then Some (is_within o.first fence) else None

-- the same, where bounds alone say that it touches no edge
abbrev pub begins_by_bounds : Option Bounds → List Pt → Outline → Option Bool
begins_by_bounds None fence o = None
begins_by_bounds (Some bounds) fence o =
    if is_apart o.around bounds then Some false else begins_by_edges fence o

-- whether a part that touches no edge is taken, by whether it begins within the fence
abbrev pub untouched_taken : Mode → Bool → Bool
untouched_taken Mode.Inside begins = begins
untouched_taken Mode.Overlap begins = begins
untouched_taken Mode.Void begins = not begins
