use Rattle.std.proofs.Common.{rules}
use Rattle.body_text.proofs.node.Goals as goal

pub returns : goal.returns
returns g c = search rules
