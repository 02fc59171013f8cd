use Rattle.dgn_laws.proofs.PatchesApplied.{applies_all}
use Rattle.dgn_laws.proofs.all_entries_applied.Goals as goal

pub returns : goal.returns
returns c = applies_all
