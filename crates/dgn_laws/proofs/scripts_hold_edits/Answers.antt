use Rattle.dgn_tool.proofs.ScriptEdits.{scripts_hold_edits}
use Rattle.dgn_laws.proofs.scripts_hold_edits.Goals as goal

pub returns : goal.returns
returns c = scripts_hold_edits
