use Rattle.std.proofs.Common.{rules}
use Rattle.dgn_layout.proofs.types.points.Points.new.Goals as goal

pub returns-clause-count : goal.returns-clause-count
returns-clause-count c = search rules

pub invariant_of-result : goal.invariant_of-result
invariant_of-result c = search rules
