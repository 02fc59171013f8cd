use Rattle.std.proofs.Common.{rules}
use Rattle.range_code.proofs.shifted.Goals as goal

pub returns-clause-off : goal.returns-clause-off
returns-clause-off c = search rules

pub returns-clause-on : goal.returns-clause-on
returns-clause-on c = search rules

pub returns-clause-sum : goal.returns-clause-sum
returns-clause-sum c = search rules
