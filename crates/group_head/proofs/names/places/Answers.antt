use Rattle.std.proofs.Common.{rules}
use Rattle.group_head.proofs.names.places.Goals as goal

pub returns-in-None : goal.returns-in-None
returns-in-None c = search rules
