-- Spots that rise are apart.
use Rattle.dgn_layout.proofs.SpotsRise as rising
use Rattle.dgn_layout.proofs.laws.rising_spots_are_apart.Goals as goal

pub returns : goal.returns
returns c = rising.rising_spots_are_apart
