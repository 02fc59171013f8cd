use Rattle.patch_file.proofs.SpellingsRead.{patch_again}
use Rattle.patch_file.proofs.ReadAnswers.{same_spelling}
use Rattle.patch_file.proofs.laws.one_spelling.Goals as goal

pub returns-clause-read : goal.returns-clause-read
returns-clause-read c = patch_again

pub returns-clause-same : goal.returns-clause-same
returns-clause-same c = same_spelling
