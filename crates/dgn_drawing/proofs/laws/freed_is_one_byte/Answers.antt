use Rattle.dgn_drawing.proofs.FreedRecords.{freed_put}
use Rattle.dgn_drawing.proofs.laws.freed_is_one_byte.Goals as goal

pub returns : goal.returns
returns c = freed_put
