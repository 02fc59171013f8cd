use Rattle.std.proofs.Common.{◌≤◌, ◌-◌, length}
use Rattle.nest_tree.specs.Sources.{rows_of, HaveBitC}
use Rattle.nest_tree.proofs.scan.marked_from.Given as goal

abbrev pub invariant-marked : goal.invariant-marked
invariant-marked l = (l._at ≤ l.end) × (l.end ≤ length (rows_of l.source)) × HaveBitC (rows_of l.source) l._at l.end

abbrev pub decreases-marked : goal.decreases-marked
decreases-marked l = length (rows_of l.source) - l.end
