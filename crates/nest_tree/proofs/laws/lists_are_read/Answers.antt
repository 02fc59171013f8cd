use Rattle.dgn_drawing.specs.Nesting.{itself}
use Rattle.nest_tree.proofs.NestingSteps.{nest_cons, nest_nil, flat-forest}
use Rattle.nest_tree.proofs.laws.lists_are_read.Goals as goal

pub returns-clause-lists : goal.returns-clause-lists
returns-clause-lists c = λ scope h r. nest_cons itself scope h r

pub returns-clause-none : goal.returns-clause-none
returns-clause-none c = λ scope. nest_nil itself scope

pub returns-clause-order : goal.returns-clause-order
returns-clause-order c = λ rows. flat-forest itself rows
