-- The spots rise.
use Rattle.dgn_layout.proofs.SpotsRise as rising
use Rattle.dgn_layout.proofs.laws.spots_rise.Goals as goal

pub returns : goal.returns
returns c = rising.spots_rise
