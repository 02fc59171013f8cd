use Rattle.std.proofs.Common.{rules}
use Rattle.group_head.proofs.total.Goals as goal

pub returns-else-b-lt40-clause-total : goal.returns-else-b-lt40-clause-total
returns-else-b-lt40-clause-total c = search rules
