use Rattle.dgn_tool.proofs.ScriptEdits.{untouched_by_scripts}
use Rattle.dgn_laws.proofs.untouched_by_scripts.Goals as goal

pub returns : goal.returns
returns c = untouched_by_scripts
