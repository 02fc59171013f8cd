use Rattle.std.proofs.Common.{rules}
use Rattle.elem_head.proofs.properties.Goals as goal

pub returns : goal.returns
returns c = search rules
