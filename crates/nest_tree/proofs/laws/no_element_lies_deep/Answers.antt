use Rattle.nest_tree.proofs.Depths.{headers_few, depths_low}
use Rattle.nest_tree.proofs.laws.no_element_lies_deep.Goals as goal

pub returns-clause-headers : goal.returns-clause-headers
returns-clause-headers c = λ rows sized words. headers_few rows sized words

pub returns-clause-depth : goal.returns-clause-depth
returns-clause-depth c = λ rows sized words. depths_low rows sized words
