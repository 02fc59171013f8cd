use Rattle.dgn_revision.proofs.Locks.{lock_put}
use Rattle.dgn_revision.proofs.laws.locks_are_one_byte.Goals as goal

pub returns : goal.returns
returns c = lock_put
