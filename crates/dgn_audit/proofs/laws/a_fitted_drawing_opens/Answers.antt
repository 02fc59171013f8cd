use Rattle.dgn_audit.proofs.FitKeepsRows.{fitted_opens}
use Rattle.dgn_audit.proofs.laws.a_fitted_drawing_opens.Goals as goal

pub returns : goal.returns
returns c = fitted_opens
