use Rattle.std.proofs.Common.{rules}
use Rattle.group_head.proofs.names.name_text.Goals as goal

pub returns : goal.returns
returns c = search rules
