use Rattle.std.proofs.Common.{◌≡◌, ◌++◌, length, map}
use Rattle.std.specs.List.{list_all}
use Rattle.range_code.specs.Plane.{is_on_plane}
use Rattle.dgn_layout.specs.Spots.{spots_of}
use Rattle.dgn_layout.specs.SpotsLeft.{spots_left}
use Rattle.dgn_drawing.specs.SpotNumbers.{sum_at}
use Rattle.edit_ops.specs.Rules.{sum_put}
use Rattle.dgn_drawing.proofs.SpotSteps.{LieIn}
use Rattle.edit_ops.proofs.changes.live.push_sums.Given as goal

-- what is put and what is left are all sums, and what is left stays on the plane exactly where all do
abbrev pub invariant-spots : goal.invariant-spots
invariant-spots l = record {
  all : l.patches ++ map (sum_put l.by l.found.place l.found.bytes.now) (spots_left l.spot-iterator)
      ≡ l.fn.patches ++ map (sum_put l.by l.found.place l.found.bytes.now) (spots_of l.d.dim l.found.kind l.found.bytes.now);
  lie : LieIn (length l.found.bytes.now) (spots_left l.spot-iterator);
  same : list_all (λ s. is_on_plane (sum_at l.by l.found.bytes.now s)) (spots_left l.spot-iterator)
      ≡ list_all (λ s. is_on_plane (sum_at l.by l.found.bytes.now s)) (spots_of l.d.dim l.found.kind l.found.bytes.now);
}
