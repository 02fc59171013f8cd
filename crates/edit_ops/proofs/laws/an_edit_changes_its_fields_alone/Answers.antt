use Rattle.edit_ops.proofs.EditLaws.{changes_fields}
use Rattle.edit_ops.proofs.laws.an_edit_changes_its_fields_alone.Goals as goal

pub returns : goal.returns
returns c = changes_fields
