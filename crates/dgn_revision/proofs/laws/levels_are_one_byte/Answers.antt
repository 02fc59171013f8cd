use Rattle.dgn_revision.proofs.FirstBytes.{level_put}
use Rattle.dgn_revision.proofs.laws.levels_are_one_byte.Goals as goal

pub returns : goal.returns
returns c = level_put
