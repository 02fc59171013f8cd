use Rattle.dgn_mend.proofs.DrawingsMended.{changes_headers}
use Rattle.dgn_mend.proofs.laws.mending_changes_headers.Goals as goal

pub returns : goal.returns
returns c = changes_headers
