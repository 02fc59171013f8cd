use Rattle.patch_bytes.proofs.Loops.{among, one_more, all_written}
use Rattle.dgn_listing.proofs.items.put_lines.Goals as goal

pub returns-in_err-put_item : goal.returns-in_err-put_item
returns-in_err-put_item c = among _ c.loop-item.invariant c.loop-item-test.true c.item-item.is c.in_err-put_item.ensures c.from_residual.ensures.0

pub loop-item-preserved : goal.loop-item-preserved
loop-item-preserved c = one_more _ c.loop-item.invariant c.loop-item-test.true c.item-item.is c.in_ok-put_item.ensures

pub returns : goal.returns
returns c = all_written c.loop-item.invariant c.loop-item-test.false
