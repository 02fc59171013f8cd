-- Points within polygons. A polygon is the list of its corners in their order.
use Rattle.std.specs.Prelude.{◌%◌, Bool, ◌==◌, ◌&&◌, ◌||◌, List, [], ◌∷◌, count_by, ◌-ℤ◌, ◌*ℤ◌, int_lt, int_le}
use Rattle.plane_geom.specs.declared.pt.Pt.{Pt}

-- whether p lies strictly to the left of the line from u up to v
unfoldable pub leans : Pt → Pt → Pt → Bool
leans p u v = int_lt ((p.x -ℤ u.x) *ℤ (v.y -ℤ u.y)) ((v.x -ℤ u.x) *ℤ (p.y -ℤ u.y))

-- whether the edge with the lower end u and the upper end v passes to the right of p
abbrev pub rises : Pt → Pt → Pt → Bool
rises p u v = int_le u.y p.y && int_lt p.y v.y && leans p u v

-- whether an edge, with its ends in any order, passes to the right of p
abbrev pub passes : Pt → Pt × Pt → Bool
passes p e = rises p e.0 e.1 || rises p e.1 e.0

-- the edges from a on: to the first of the corners that follow, from each to the next, from the last
-- to the first corner of all
abbrev pub edges_from : Pt → Pt → List Pt → List (Pt × Pt)
edges_from first a [] = (a, first) ∷ []
edges_from first a (b ∷ rest) = (a, b) ∷ edges_from first b rest

-- the edges of a polygon: from each corner to the next, and from the last to the first
abbrev pub edges : List Pt → List (Pt × Pt)
edges [] = []
edges (a ∷ rest) = edges_from a a rest

-- whether the number of edges that pass to the right of p is odd
abbrev pub is_within : Pt → List Pt → Bool
is_within p polygon = count_by (passes p) (edges polygon) % 2 == 1
