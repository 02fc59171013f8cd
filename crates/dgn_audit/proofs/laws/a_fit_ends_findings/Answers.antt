use Rattle.dgn_audit.proofs.FindingsEnd.{ends_findings}
use Rattle.dgn_audit.proofs.laws.a_fit_ends_findings.Goals as goal

pub returns : goal.returns
returns c = ends_findings
