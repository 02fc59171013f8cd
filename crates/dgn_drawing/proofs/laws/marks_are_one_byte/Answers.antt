use Rattle.dgn_drawing.proofs.MarkedRecords.{mark_put}
use Rattle.dgn_drawing.proofs.laws.marks_are_one_byte.Goals as goal

pub returns : goal.returns
returns c = mark_put
