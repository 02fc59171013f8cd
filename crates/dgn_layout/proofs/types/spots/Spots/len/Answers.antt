use Rattle.std.proofs.Common.{ℕ, ◌*◌, ◌++◌, false, ap, length-append, arith}
use Rattle.dgn_layout.specs.Spots.{fields_from, points_spots}
use Rattle.dgn_layout.proofs.PointsLeft.{fields_count, points_count}
use Rattle.dgn_layout.proofs.types.spots.Spots.len.Goals as goal

pub returns : goal.returns
returns c =
    let s = c.args.self.now in
    omega (
      arith,
      length-append s.fixed.now (fields_from false s.left s.axis s.at ++ points_spots s.points.count s.points.axes s.points.start),
      length-append (fields_from false s.left s.axis s.at) (points_spots s.points.count s.points.axes s.points.start),
      fields_count false s.left s.axis s.at,
      ap (λ (k : ℕ). s.points.count * k) c.from.ensures,
      points_count s.points.count s.points.axes s.points.start,
    )
