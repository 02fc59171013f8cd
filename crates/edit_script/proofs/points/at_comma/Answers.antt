use Rattle.std.proofs.Common.{arith}
use Rattle.edit_script.proofs.Commas.{cut_whole, cut_found}
use Rattle.edit_script.proofs.points.at_comma.Goals as goal

pub returns-then-front-word : goal.returns-then-front-word
returns-then-front-word c = grind (arith, cut_whole)

pub returns-else-front-word : goal.returns-else-front-word
returns-else-front-word c = grind (arith, cut_found)
