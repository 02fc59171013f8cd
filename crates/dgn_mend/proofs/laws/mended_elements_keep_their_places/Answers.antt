use Rattle.dgn_mend.proofs.DrawingsMended.{keep_places}
use Rattle.dgn_mend.proofs.laws.mended_elements_keep_their_places.Goals as goal

pub returns : goal.returns
returns c = keep_places
