use Rattle.std.proofs.Common.{◌≡◌, length}
use Rattle.std.specs.List.{list_all}
use Rattle.range_code.specs.Plane.{is_on_plane}
use Rattle.dgn_layout.specs.Spots.{spots_of}
use Rattle.dgn_layout.specs.SpotsLeft.{spots_left}
use Rattle.dgn_drawing.specs.SpotNumbers.{sum_at}
use Rattle.dgn_drawing.proofs.SpotSteps.{LieIn}
use Rattle.dgn_drawing.proofs.sums.stays_on_plane.Given as goal

-- what is left stays exactly where all do
abbrev pub invariant-spots : goal.invariant-spots
invariant-spots l = record {
  same : list_all (λ s. is_on_plane (sum_at l.by l.b s)) (spots_left l.spot-iterator)
      ≡ list_all (λ s. is_on_plane (sum_at l.by l.b s)) (spots_of l.dim l.kind l.b);
  lie : LieIn (length l.b) (spots_left l.spot-iterator);
}
