use Rattle.dgn_import.proofs.GatheredTrees.{nest_apart}
use Rattle.dgn_import.proofs.laws.gathered_trees_nest_apart.Goals as goal

pub returns : goal.returns
returns c = nest_apart
