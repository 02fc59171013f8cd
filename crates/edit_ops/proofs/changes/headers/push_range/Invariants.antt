use Rattle.std.proofs.Common.{◌≡◌, ◌++◌, length, map}
use Rattle.dgn_layout.specs.Spots.{spots_of}
use Rattle.dgn_layout.specs.SpotsLeft.{spots_left}
use Rattle.edit_ops.specs.Rules.{wider_put}
use Rattle.dgn_drawing.proofs.SpotSteps.{LieIn}
use Rattle.edit_ops.proofs.WiderRanges.{of_ranges}
use Rattle.edit_ops.proofs.changes.headers.push_range.Given as goal

-- what is put so far and what is put at the range spots that are left are all
abbrev pub invariant-spots : goal.invariant-spots
invariant-spots l = record {
  all : l.patches ++ map (wider_put l.r l.found.place l.found.bytes.now) (of_ranges (spots_left l.spot-iterator))
      ≡ l.fn.patches ++ map (wider_put l.r l.found.place l.found.bytes.now) (of_ranges (spots_of l.d.dim l.found.kind l.found.bytes.now));
  lie : LieIn (length l.found.bytes.now) (spots_left l.spot-iterator);
}
