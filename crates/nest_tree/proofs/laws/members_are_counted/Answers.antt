use Rattle.dgn_drawing.specs.Nesting.{itself}
use Rattle.nest_tree.proofs.MemberCounts.{members_are}
use Rattle.nest_tree.proofs.laws.members_are_counted.Goals as goal

pub returns : goal.returns
returns c = λ h r k each. members_are itself h r k each
