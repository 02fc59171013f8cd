use Rattle.dgn_import.proofs.ImportRefusals.{trees_alone_refuse}
use Rattle.dgn_import.proofs.laws.trees_alone_refuse.Goals as goal

pub returns : goal.returns
returns c = trees_alone_refuse
