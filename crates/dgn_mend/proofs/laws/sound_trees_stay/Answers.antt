use Rattle.dgn_mend.proofs.TreesReached.{sound_stay}
use Rattle.dgn_mend.proofs.laws.sound_trees_stay.Goals as goal

pub returns : goal.returns
returns c = sound_stay
