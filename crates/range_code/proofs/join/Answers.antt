use Rattle.std.proofs.Common.{rules}
use Rattle.range_code.proofs.join.Goals as goal

pub returns : goal.returns
returns c = search rules
