use Rattle.std.proofs.Common.{rules}
use Rattle.dgn_linkage.proofs.types.links.Links.new.Goals as goal

pub returns : goal.returns
returns c = search rules
