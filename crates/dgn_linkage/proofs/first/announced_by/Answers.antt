use Rattle.std.proofs.Common.{arith}
use Rattle.std.proofs.lemmas.Grind.{common_steps}
use Rattle.dgn_linkage.proofs.first.announced_by.Goals as goal

pub returns-else-second-eq1 : goal.returns-else-second-eq1
returns-else-second-eq1 c = grind (arith, common_steps)
