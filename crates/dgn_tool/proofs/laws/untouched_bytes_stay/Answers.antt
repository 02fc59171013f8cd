use Rattle.dgn_tool.proofs.UntouchedBytes.{untouched}
use Rattle.dgn_tool.proofs.laws.untouched_bytes_stay.Goals as goal

pub returns : goal.returns
returns c = untouched
