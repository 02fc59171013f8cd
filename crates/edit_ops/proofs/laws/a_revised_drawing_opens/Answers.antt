use Rattle.edit_ops.proofs.RevisionLaws.{revised_opens, revised_fits}
use Rattle.edit_ops.proofs.laws.a_revised_drawing_opens.Goals as goal

pub returns-clause-opens : goal.returns-clause-opens
returns-clause-opens c = revised_opens

pub returns-clause-fits : goal.returns-clause-fits
returns-clause-fits c = revised_fits
