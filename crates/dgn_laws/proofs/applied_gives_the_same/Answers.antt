use Rattle.dgn_laws.proofs.PackedAgain.{applied_gives_the_same}
use Rattle.dgn_laws.proofs.SameFile.{writes_the_same}
use Rattle.dgn_laws.proofs.applied_gives_the_same.Goals as goal

pub returns-clause-entries : goal.returns-clause-entries
returns-clause-entries c = applied_gives_the_same

pub returns-clause-file : goal.returns-clause-file
returns-clause-file c = writes_the_same
