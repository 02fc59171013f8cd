use Rattle.dgn_drawing.proofs.RangesPut.{widen_put}
use Rattle.dgn_drawing.proofs.laws.widenings_are_wider.Goals as goal

pub returns : goal.returns
returns c = widen_put
