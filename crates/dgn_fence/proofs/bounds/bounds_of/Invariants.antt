use Rattle.std.proofs.Common.{◌≡◌, drop}
use Rattle.std.specs.List.{fold}
use Rattle.dgn_fence.specs.Limits.{grown}
use Rattle.dgn_fence.proofs.bounds.bounds_of.Given as goal

-- The bounds grown by what is left are those of all.
abbrev pub invariant-loop-point : goal.invariant-loop-point
invariant-loop-point l = fold grown l.bounds (drop l.point-index l.rest) ≡ fold grown l.initial.bounds l.rest
