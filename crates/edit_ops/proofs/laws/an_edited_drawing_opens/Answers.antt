use Rattle.edit_ops.proofs.EditLaws.{edited_opens, edited_fits}
use Rattle.edit_ops.proofs.laws.an_edited_drawing_opens.Goals as goal

pub returns-clause-opens : goal.returns-clause-opens
returns-clause-opens c = edited_opens

pub returns-clause-fits : goal.returns-clause-fits
returns-clause-fits c = edited_fits
