use Rattle.std.proofs.Common.{rules}
use Rattle.dgn_layout.proofs.ends.characters_end.Goals as goal

pub returns : goal.returns
returns c = search rules
