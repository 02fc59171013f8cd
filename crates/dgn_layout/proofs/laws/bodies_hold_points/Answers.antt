-- An element that doesn't end before its body does holds its points.
use Rattle.dgn_layout.proofs.PointsHeld as holding
use Rattle.dgn_layout.proofs.laws.bodies_hold_points.Goals as goal

pub returns : goal.returns
returns c = holding.bodies_hold_points
