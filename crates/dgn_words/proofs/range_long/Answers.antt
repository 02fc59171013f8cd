use Rattle.std.proofs.Common.{rules}
use Rattle.dgn_words.proofs.range_long.Goals as goal

pub returns : goal.returns
returns c = search rules
