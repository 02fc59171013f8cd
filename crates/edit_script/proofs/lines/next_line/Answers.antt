use Rattle.std.proofs.Common.{arith}
use Rattle.std.proofs.lemmas.Bool.Decides.{nat_tests}
use Rattle.edit_script.proofs.TextPieces.{lines_of-first}
use Rattle.edit_script.proofs.lines.next_line.Goals as goal

pub returns-clause-first : goal.returns-clause-first
returns-clause-first c = grind (arith, nat_tests, lines_of-first)
