use Rattle.dgn_drawing.proofs.MadeElements.{made_good}
use Rattle.dgn_drawing.proofs.laws.made_elements_are_well_formed.Goals as goal

pub returns : goal.returns
returns c = made_good
