use Rattle.dgn_laws.proofs.FitFindings.{fits_end_findings}
use Rattle.dgn_laws.proofs.fits_end_findings.Goals as goal

pub returns : goal.returns
returns c = fits_end_findings
