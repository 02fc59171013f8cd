use Rattle.std.proofs.Common.{◌≡◌, drop}
use Rattle.std.specs.List.{list_all}
use Rattle.plane_geom.specs.Polygons.{edges_from}
use Rattle.dgn_fence.specs.Limits.{misses}
use Rattle.dgn_fence.specs.Outlines.{misses_all}
use Rattle.dgn_fence.proofs.edges.misses_all.Given as goal

-- All edges that are left are missed where all are.
abbrev pub invariant-loop-to : goal.invariant-loop-to
invariant-loop-to l = list_all (λ e. misses l.around e.0 e.1) (edges_from l.first l.from (drop l.to-index l.rest)) ≡ misses_all l.around l.corners
