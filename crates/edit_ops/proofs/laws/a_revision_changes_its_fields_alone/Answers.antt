use Rattle.edit_ops.proofs.RevisionLaws.{revision_changes, revised_apart}
use Rattle.edit_ops.proofs.laws.a_revision_changes_its_fields_alone.Goals as goal

pub returns-clause-changes : goal.returns-clause-changes
returns-clause-changes c = revision_changes

pub returns-clause-apart : goal.returns-clause-apart
returns-clause-apart c = revised_apart
