use Rattle.std.proofs.Common.{rules}
use Rattle.dgn_layout.proofs.types.spots.Spots.go_on.Goals as goal

pub returns-then-self-gt0-clause-same : goal.returns-then-self-gt0-clause-same
returns-then-self-gt0-clause-same c = search rules
