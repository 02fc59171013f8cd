use Rattle.std.proofs.Common.{rules}
use Rattle.range_code.proofs.range.Goals as goal

pub returns : goal.returns
returns c = search rules
