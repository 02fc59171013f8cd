use Rattle.std.proofs.Common.{arith}
use Rattle.std.proofs.lemmas.Grind.{common_steps}
use Rattle.edit_script.proofs.NamedValues.{behind-append, each_one}
use Rattle.edit_script.proofs.points.read_points.Goals as goal

pub words-preserved : goal.words-preserved
words-preserved c = record {
  reads = grind (arith, common_steps, behind-append);
  fits = grind (arith, common_steps, each_one);
}
