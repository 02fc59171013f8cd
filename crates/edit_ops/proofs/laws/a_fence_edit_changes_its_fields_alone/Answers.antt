use Rattle.edit_ops.proofs.FenceLaws.{fenced_changes}
use Rattle.edit_ops.proofs.laws.a_fence_edit_changes_its_fields_alone.Goals as goal

pub returns : goal.returns
returns c = fenced_changes
