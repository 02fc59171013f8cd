use Rattle.patch_file.proofs.Puts.{taken_is_the_edit, edits_may_be_taken}
use Rattle.patch_file.proofs.laws.taken_is_the_edit.Goals as goal

pub returns-clause-edit : goal.returns-clause-edit
returns-clause-edit c = taken_is_the_edit

pub returns-clause-may : goal.returns-clause-may
returns-clause-may c = edits_may_be_taken
