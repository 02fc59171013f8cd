use Rattle.std.proofs.Common.{arith}
use Rattle.std.proofs.lemmas.Grind.{common_steps}
use Rattle.edit_script.proofs.NamedValues.{behind-append}
use Rattle.edit_script.proofs.fences.read_corners.Goals as goal

pub words-preserved : goal.words-preserved
words-preserved c = grind (arith, common_steps, behind-append)
