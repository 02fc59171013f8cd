use Rattle.dgn_drawing.proofs.DisplacedRecords.{shift_put}
use Rattle.dgn_drawing.proofs.laws.displacements_are_sums.Goals as goal

pub returns : goal.returns
returns c = shift_put
