use Rattle.std.proofs.Common.{◌≡◌, ◌+◌, ◌≤◌, drop}
use Rattle.std.specs.List.{count_by}
use Rattle.plane_geom.specs.Polygons.{edges, edges_from, passes}
use Rattle.plane_geom.proofs.polygon.within.Given as goal

-- The count and the edges that are left to pass make up all edges that pass.
abbrev pub invariant-loop-to : goal.invariant-loop-to
invariant-loop-to l = record {
  few : l.count ≤ l.to-index;
  all : l.count + count_by (passes l.p) (edges_from l.first l.from (drop l.to-index l.rest)) ≡ count_by (passes l.p) (edges l.fn.poly);
}
