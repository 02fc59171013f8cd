use Rattle.std.proofs.Common.{◌≡◌, length, None}
use Rattle.dgn_layout.specs.Spots.{spots_of}
use Rattle.dgn_layout.specs.SpotsLeft.{spots_left}
use Rattle.dgn_drawing.proofs.SpotSteps.{LieIn}
use Rattle.dgn_audit.proofs.PointHulls.{blank, read_from}
use Rattle.dgn_audit.proofs.hulls.points_hull.Given as goal

-- what is read so far and what is left give what all spots do
abbrev pub invariant-spots : goal.invariant-spots
invariant-spots l = record {
  all : read_from l.dim l.view.bytes.now l.point.at l.hull (spots_left l.spot-iterator)
      ≡ read_from l.dim l.view.bytes.now blank None (spots_of l.d.dim l.view.kind l.view.bytes.now);
  lie : LieIn (length l.view.bytes.now) (spots_left l.spot-iterator);
}
