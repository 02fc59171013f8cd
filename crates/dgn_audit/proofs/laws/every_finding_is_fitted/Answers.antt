use Rattle.dgn_audit.proofs.FindingsFitted.{findings_fitted}
use Rattle.dgn_audit.proofs.laws.every_finding_is_fitted.Goals as goal

pub returns : goal.returns
returns c = findings_fitted
