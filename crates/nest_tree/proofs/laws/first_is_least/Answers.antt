use Rattle.nest_tree.proofs.LeastNumber.{first_is}
use Rattle.nest_tree.proofs.laws.first_is_least.Goals as goal

pub returns : goal.returns
returns c = λ test n count m. first_is test n count m
