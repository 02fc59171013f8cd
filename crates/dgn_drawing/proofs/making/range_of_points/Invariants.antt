use Rattle.std.proofs.Common.{◌≡◌, ◌<◌, length, drop}
use Rattle.dgn_drawing.specs.NewElements.{lowest, highest}
use Rattle.dgn_drawing.proofs.making.range_of_points.Given as goal

-- the range of the points from the last one back to this
abbrev pub invariant-points : goal.invariant-points
invariant-points l = record {
  within : l.i < length l.points;
  low : l.range.lo ≡ lowest (drop l.i l.points);
  high : l.range.hi ≡ highest (drop l.i l.points);
}

abbrev pub decreases-points : goal.decreases-points
decreases-points l = l.i
