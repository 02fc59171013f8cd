-- The linkages are the one list by the rules.
use Rattle.std.proofs.Common.{sym, subst, length, arith}
use Rattle.dgn_linkage.specs.Laws.{ByRules}
use Rattle.dgn_linkage.proofs.LinkageSteps.{by_rules, rules_of}
use Rattle.dgn_linkage.proofs.laws.follows_rules.Goals as goal

pub returns : goal.returns
returns c = λ b links. (by_rules 0 b links, λ e. subst (ByRules 0 b) (sym e) (rules_of (length b) 0 b (omega arith)))
