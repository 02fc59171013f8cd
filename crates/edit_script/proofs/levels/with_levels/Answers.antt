use Rattle.std.proofs.Common.{arith}
use Rattle.edit_script.proofs.Masks.{one_more}
use Rattle.edit_script.proofs.levels.with_levels.Goals as goal

pub levels-preserved : goal.levels-preserved
levels-preserved c = grind (arith, one_more)
