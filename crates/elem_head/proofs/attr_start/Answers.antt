use Rattle.std.proofs.Common.{arith}
use Rattle.std.proofs.lemmas.Grind.{common_steps}
use Rattle.elem_head.proofs.attr_start.Goals as goal

pub returns-then-properties-eq1-clause-set : goal.returns-then-properties-eq1-clause-set
returns-then-properties-eq1-clause-set c = grind (arith, common_steps)

pub returns-then-properties-eq1-clause-start : goal.returns-then-properties-eq1-clause-start
returns-then-properties-eq1-clause-start c = grind (arith, common_steps)

pub returns-else-properties-eq1-clause-clear : goal.returns-else-properties-eq1-clause-clear
returns-else-properties-eq1-clause-clear c = grind (arith, common_steps)
