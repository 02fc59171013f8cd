use Rattle.patch_file.proofs.Puts.{taken_gives_the_same, all_taken_give_the_same}
use Rattle.patch_file.proofs.laws.applied_gives_the_same.Goals as goal

pub returns-clause-one_entry : goal.returns-clause-one_entry
returns-clause-one_entry c = taken_gives_the_same

pub returns-clause-all : goal.returns-clause-all
returns-clause-all c = all_taken_give_the_same
