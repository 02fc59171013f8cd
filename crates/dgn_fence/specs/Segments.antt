-- The segments of an item, by which a fence judges it. A segment is the pair of its ends. Of a point only
-- x and y count.
use Rattle.std.specs.Prelude.{ℕ, ◌==◌, ℤ, Bool, ◌||◌, if◌then◌else◌, List, [], ◌∷◌, length, map}
use Rattle.range_code.specs.declared.Box3.{Box3}
use Rattle.range_code.specs.Ranges.{on_axis}
use Rattle.plane_geom.specs.declared.pt.Pt.{Pt}
use Rattle.plane_geom.specs.Polygons.{edges}
use Rattle.dgn_drawing.specs.declared.types.item.Item.{Item}
use Rattle.dgn_drawing.specs.declared.types.item_body.ItemBody.{ItemBody}

-- x and y of a point of three numbers
abbrev pub plane_point : List ℤ → Pt
plane_point v = record { x = on_axis v 0; y = on_axis v 1 }

-- from a to the first of the points that follow, from each to the next and, where the path closes, from
-- the last to its first point
abbrev pub legs : Bool → Pt → Pt → List Pt → List (Pt × Pt)
legs closes first a [] = if closes then (a, first) ∷ [] else []
legs closes first a (b ∷ rest) = (a, b) ∷ legs closes first b rest

-- the segments of a path that is closed or open. One of one point has the segment from it to itself
abbrev pub path_segments : Bool → List Pt → List (Pt × Pt)
path_segments closed [] = []
path_segments closed (a ∷ rest) = legs (closed || length rest == 0) a a rest

-- the corners of a range, from the low one round by the one that is high in x
abbrev pub corners_of : Box3 → List Pt
corners_of range =
    record { x = on_axis range.lo 0; y = on_axis range.lo 1 } ∷ record { x = on_axis range.hi 0; y = on_axis range.lo 1 }
    ∷ record { x = on_axis range.hi 0; y = on_axis range.hi 1 } ∷ record { x = on_axis range.lo 0; y = on_axis range.hi 1 } ∷ []

-- those of an item of that type and range: of a path its own, and a shape, type 6, is closed; of a text and of what is
-- shown by its range alone the edges of the range; of a header none
abbrev pub body_segments : ℕ → Box3 → ItemBody → List (Pt × Pt)
body_segments kind range (ItemBody.Path points) = path_segments (kind == 6) (map plane_point points)
body_segments kind range (ItemBody.Text origin chars) = edges (corners_of range)
body_segments kind range ItemBody.Boxed = edges (corners_of range)
body_segments kind range (ItemBody.Cell name origin) = []
body_segments kind range (ItemBody.Node origin) = []
body_segments kind range ItemBody.Group = []

-- the segments of an item
abbrev pub segments_of : Item → List (Pt × Pt)
segments_of item = body_segments item.kind item.range item.body
