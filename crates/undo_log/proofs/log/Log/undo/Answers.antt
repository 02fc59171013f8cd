use Rattle.std.proofs.Common.{arith}
use Rattle.std.proofs.lemmas.Grind.{common_steps}
use Rattle.undo_log.proofs.log.Log.undo.Goals as goal

pub returns-clause-undone : goal.returns-clause-undone
returns-clause-undone c = grind (arith, common_steps)
