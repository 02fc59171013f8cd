use Rattle.dgn_drawing.proofs.Looks.{looks_put}
use Rattle.dgn_drawing.proofs.laws.looks_are_two_bytes.Goals as goal

pub returns-clause-shown : goal.returns-clause-shown
returns-clause-shown c = looks_put
