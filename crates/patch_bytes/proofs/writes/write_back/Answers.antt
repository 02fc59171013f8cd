use Rattle.std.proofs.Common.{◌∙◌, arith}
use Rattle.patch_bytes.proofs.WriteBackSteps.{IsLast, last_left, back_more, within_more}
use Rattle.patch_bytes.proofs.writes.write_back.Goals as goal

-- the patch at hand is the last of those that are left
pub swap_in-requires : goal.swap_in-requires
swap_in-requires c =
    (last_left c.loop-left.buf c.args.list.now c.loop-left.left c.index-list-last.result (omega arith) c.loop-left.invariant.few
    c.loop-left.invariant.within c.index-list-last.is).within

pub loop-left-preserved : goal.loop-left-preserved
loop-left-preserved c =
    let last : IsLast c.loop-left.buf c.args.list.now c.loop-left.left c.index-list-last.result =
    last_left c.loop-left.buf c.args.list.now c.loop-left.left c.index-list-last.result (omega arith) c.loop-left.invariant.few
    c.loop-left.invariant.within c.index-list-last.is in
    record {
      few = omega arith;
      within = within_more c.loop-left.buf _ c.args.list.now c.loop-left.left _ last c.swap_in.ensures.written;
      same = back_more c.loop-left.buf _ c.args.list.now c.loop-left.left _ last c.swap_in.ensures.written ∙ c.loop-left.invariant.same;
    }
