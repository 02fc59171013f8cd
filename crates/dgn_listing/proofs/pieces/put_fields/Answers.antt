use Rattle.std.proofs.Common.{refl}
use Rattle.patch_bytes.proofs.Loops.{among, one_more, all_written}
use Rattle.dgn_listing.proofs.pieces.put_fields.Goals as goal

pub returns-in_err-put_field : goal.returns-in_err-put_field
returns-in_err-put_field c = among 0 c.loop-n.invariant c.loop-n-test.true refl c.in_err-put_field.ensures c.from_residual.ensures.0

pub loop-n-preserved : goal.loop-n-preserved
loop-n-preserved c = one_more 0 c.loop-n.invariant c.loop-n-test.true refl c.in_ok-put_field.ensures

pub returns : goal.returns
returns c = all_written c.loop-n.invariant c.loop-n-test.false
