use Rattle.std.proofs.Common.{◌≡◌, map, drop}
use Rattle.std.specs.List.{fold}
use Rattle.dgn_fence.specs.Segments.{plane_point}
use Rattle.dgn_fence.specs.Limits.{grown}
use Rattle.dgn_fence.proofs.outline.path_outline.Given as goal

-- The bounds grown by what is left are those of all.
abbrev pub invariant-loop-i : goal.invariant-loop-i
invariant-loop-i g l = fold grown l.around (map plane_point (drop l.i l.path)) ≡ fold grown l.initial.around (map plane_point (drop 1 l.path))
