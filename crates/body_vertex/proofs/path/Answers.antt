use Rattle.std.proofs.Common.{rules}
use Rattle.body_vertex.proofs.path.Goals as goal

pub returns-then-b-start : goal.returns-then-b-start
returns-then-b-start g c = search rules
