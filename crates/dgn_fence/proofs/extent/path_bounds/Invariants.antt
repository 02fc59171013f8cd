use Rattle.std.proofs.Common.{◌≡◌, map, drop}
use Rattle.std.specs.List.{fold}
use Rattle.dgn_fence.specs.Segments.{plane_point}
use Rattle.dgn_fence.specs.Limits.{grown}
use Rattle.dgn_fence.proofs.extent.path_bounds.Given as goal

-- The bounds grown by what is left are those of all.
abbrev pub invariant-loop-point : goal.invariant-loop-point
invariant-loop-point l = fold grown l.bounds (map plane_point (drop l.point-index l.rest)) ≡ fold grown l.initial.bounds (map plane_point l.rest)
