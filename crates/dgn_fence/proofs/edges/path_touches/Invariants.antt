use Rattle.std.proofs.Common.{◌≡◌, map, drop}
use Rattle.dgn_fence.specs.Segments.{plane_point, legs, path_segments}
use Rattle.dgn_fence.specs.Taken.{any_touches}
use Rattle.dgn_fence.specs.Ends.{IsEnd}
use Rattle.dgn_fence.proofs.edges.path_touches.Given as goal

-- What is left of the path touches the edge where all of it does.
abbrev pub invariant-loop-point : goal.invariant-loop-point
invariant-loop-point l = record {
  first : IsEnd l.r l.s l.start;
  here : IsEnd l.r l.s l.from;
  left : any_touches (legs l.closes l.start.point l.from.point (map plane_point (drop l.point-index l.rest))) (l.r, l.s)
      ≡ any_touches (path_segments l.closed (map plane_point l.points)) (l.r, l.s);
}
