use Rattle.edit_ops.proofs.FenceLaws.{fenced_opens, fenced_fits}
use Rattle.edit_ops.proofs.laws.a_fenced_drawing_opens.Goals as goal

pub returns-clause-opens : goal.returns-clause-opens
returns-clause-opens c = fenced_opens

pub returns-clause-fits : goal.returns-clause-fits
returns-clause-fits c = fenced_fits
