use Rattle.std.proofs.Common.{rules}
use Rattle.dgn_radix50.proofs.sign.Goals as goal

pub bounds-from : goal.bounds-from
bounds-from c = search rules
