use Rattle.dgn_revision.proofs.Names.{name_put}
use Rattle.dgn_revision.proofs.laws.names_are_two_words.Goals as goal

pub returns : goal.returns
returns c = name_put
