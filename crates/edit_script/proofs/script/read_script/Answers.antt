use Rattle.std.proofs.Common.{arith}
use Rattle.std.proofs.lemmas.Grind.{common_steps}
use Rattle.edit_script.proofs.script.read_script.Goals as goal
use Rattle.edit_script.proofs.script.read_script.Goals.{in-Nothing, in-Asks+in_ok-map_err-in-Asks}

pub lines-preserved : goal.lines-preserved
lines-preserved c = elim c.match-limited.branch [
  | in-Nothing w ↦ grind (arith, common_steps)
  | in-Asks+in_ok-map_err-in-Asks w ↦ grind (arith, common_steps)
]
