-- What is by the rules fills the data.
use Rattle.std.proofs.Common.{length, arith}
use Rattle.dgn_linkage.specs.Linkages.{linkages_of}
use Rattle.dgn_linkage.proofs.LinkageSteps.{rules_of, fills}
use Rattle.dgn_linkage.proofs.laws.adds_up.Goals as goal

pub returns : goal.returns
returns c = λ b. fills 0 (length b) b (linkages_of b) (rules_of (length b) 0 b (omega arith)) (omega arith)
