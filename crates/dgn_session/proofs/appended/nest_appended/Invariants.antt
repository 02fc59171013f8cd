use Rattle.std.proofs.Common.{length}
use Rattle.dgn_session.proofs.NestingGrowth.{HasFollowed}
use Rattle.dgn_session.proofs.appended.nest_appended.Given as goal

abbrev pub invariant-blocks-2 : goal.invariant-blocks-2
invariant-blocks-2 l = HasFollowed l.bytes l.rest l.fn.nest.rows l.nest.rows l.count

abbrev pub decreases-blocks-2 : goal.decreases-blocks-2
decreases-blocks-2 l = length l.rest
