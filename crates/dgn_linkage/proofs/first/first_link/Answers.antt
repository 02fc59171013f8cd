use Rattle.std.proofs.Common.{rules}
use Rattle.dgn_linkage.proofs.first.first_link.Goals as goal

pub returns-clause-link : goal.returns-clause-link
returns-clause-link c = search rules
