use Rattle.std.proofs.Common.{◌≡◌, drop}
use Rattle.std.specs.List.{list_any}
use Rattle.plane_geom.specs.Polygons.{edges_from}
use Rattle.dgn_fence.specs.Segments.{segments_of}
use Rattle.dgn_fence.specs.Taken.{any_touches, touches_fence}
use Rattle.dgn_fence.proofs.edges.touches_fence.Given as goal

-- One of the edges that are left is touched where one of all is.
abbrev pub invariant-loop-to : goal.invariant-loop-to
invariant-loop-to l = list_any (any_touches (segments_of l.item)) (edges_from l.first l.from (drop l.to-index l.rest))
    ≡ touches_fence l.corners (segments_of l.item)
