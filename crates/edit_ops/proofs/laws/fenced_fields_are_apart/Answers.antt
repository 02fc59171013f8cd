use Rattle.edit_ops.proofs.FenceLaws.{fenced_apart}
use Rattle.edit_ops.proofs.laws.fenced_fields_are_apart.Goals as goal

pub returns : goal.returns
returns c = fenced_apart
