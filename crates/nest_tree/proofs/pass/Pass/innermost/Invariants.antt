use Rattle.std.proofs.Common.{◌≤◌}
use Rattle.std.specs.Prelude.{IfSome}
use Rattle.nest_tree.specs.Pass.{all_rows}
use Rattle.nest_tree.specs.Places.{Going}
use Rattle.nest_tree.proofs.pass.Pass.innermost.Given as goal

abbrev pub invariant-loop-list : goal.invariant-loop-list
invariant-loop-list l = Going (all_rows l.self) l.self.at l.list × IfSome l.list.parent (λ q. l.self.first ≤ q)

abbrev pub decreases-loop-list : goal.decreases-loop-list
decreases-loop-list l = l.list.depth
