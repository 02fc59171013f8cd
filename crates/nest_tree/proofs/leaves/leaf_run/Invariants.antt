use Rattle.std.proofs.Common.{◌≤◌, ◌-◌}
use Rattle.nest_tree.specs.Sources.{rows_of, AreLeaves}
use Rattle.nest_tree.proofs.leaves.leaf_run.Given as goal

abbrev pub invariant-leaves : goal.invariant-leaves
invariant-leaves l = (l.first ≤ l.i) × (l.i ≤ l.end) × AreLeaves l.roots l.orphans (rows_of l.source) l.first l.i

abbrev pub decreases-leaves : goal.decreases-leaves
decreases-leaves l = l.end - l.i
