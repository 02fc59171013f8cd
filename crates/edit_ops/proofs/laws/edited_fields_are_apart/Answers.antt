use Rattle.edit_ops.proofs.FieldsRise.{fields_apart}
use Rattle.edit_ops.proofs.laws.edited_fields_are_apart.Goals as goal

pub returns : goal.returns
returns c = fields_apart
