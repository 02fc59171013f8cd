use Rattle.dgn_revision.proofs.FirstBytes.{unmark_put}
use Rattle.dgn_revision.proofs.laws.unmarked_is_one_byte.Goals as goal

pub returns : goal.returns
returns c = unmark_put
