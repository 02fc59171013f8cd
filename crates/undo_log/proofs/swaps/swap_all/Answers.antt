use Rattle.std.proofs.Common.{◌+◌, set, ap, sym, ◌∙◌, subst, arith}
use Rattle.patch_bytes.specs.PatchView.{put_of}
use Rattle.undo_log.proofs.PutsExchanged.{AreSwapped, within_at, some_before, swapped_more}
use Rattle.undo_log.proofs.swaps.swap_all.Goals as goal

pub swap_in-old-requires : goal.swap_in-old-requires
swap_in-old-requires c =
    within_at c.loop-i.buf c.loop-i.patches c.loop-i.i _ _ (put_of c.in-Some.patch) c.loop-i.invariant (sym c.in-Some.ensures)

pub unreachable-requires : goal.unreachable-requires
unreachable-requires c =
    let many = c.loop-i.invariant.many in
    some_before c.loop-i.patches c.loop-i.i (omega arith) c.in-None.ensures

pub loop-i-preserved : goal.loop-i-preserved
loop-i-preserved c =
    let many = c.loop-i.invariant.many in
    subst (λ ps. AreSwapped c.swap_in-old.new.buf ps (c.loop-i.i + 1) c.args.buf.now c.args.patches.now)
    (sym (c.set.ensures ∙ ap (λ q. set c.loop-i.patches c.loop-i.i q) c.swap_in-old.ensures.restores))
    (swapped_more c.loop-i.buf c.swap_in-old.new.buf c.loop-i.patches c.loop-i.i _ _ (put_of c.in-Some.patch) c.loop-i.invariant
    (omega arith) (sym c.in-Some.ensures) c.swap_in-old.ensures.written)
