use Rattle.dgn_session.proofs.EntriesBack.{opened_stands_still}
use Rattle.dgn_session.proofs.laws.the_opened_stands_still.Goals as goal

pub returns : goal.returns
returns c = opened_stands_still
