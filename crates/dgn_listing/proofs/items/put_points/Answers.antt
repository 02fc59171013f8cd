use Rattle.std.proofs.Common.{[], refl}
use Rattle.patch_bytes.proofs.Loops.{among, one_more, all_written}
use Rattle.dgn_listing.proofs.items.put_points.Goals as goal

pub returns-in_err-put_next_point : goal.returns-in_err-put_next_point
returns-in_err-put_next_point c = among [] c.loop-point.invariant c.loop-point-test.true refl c.in_err-put_next_point.ensures c.from_residual.ensures.0

pub loop-point-preserved : goal.loop-point-preserved
loop-point-preserved c = one_more [] c.loop-point.invariant c.loop-point-test.true refl c.in_ok-put_next_point.ensures

pub returns : goal.returns
returns c = all_written c.loop-point.invariant c.loop-point-test.false
