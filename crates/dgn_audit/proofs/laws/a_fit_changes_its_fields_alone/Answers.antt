use Rattle.dgn_audit.proofs.FitKeepsRows.{fits_change}
use Rattle.dgn_audit.proofs.laws.a_fit_changes_its_fields_alone.Goals as goal

pub returns : goal.returns
returns c = fits_change
