use Rattle.std.proofs.Common.{ℕ, ◌<◌, ◌≤◌, length}
use Rattle.std.specs.Prelude.{slice_index}
use Rattle.dgn_session.proofs.taking.count_below.Given as goal

abbrev pub invariant-back : goal.invariant-back
invariant-back l = (l.count ≤ length l.offsets) × ((k : ℕ) → l.count ≤ k → k < length l.offsets → l.len ≤ slice_index l.offsets k)

abbrev pub decreases-back : goal.decreases-back
decreases-back l = l.count
