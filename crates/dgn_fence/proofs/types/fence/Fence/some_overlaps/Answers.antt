-- What overlaps is a part.
use Rattle.std.proofs.Common.{◌∙◌, sym}
use Rattle.dgn_fence.proofs.FenceMisses.{some_left}
use Rattle.dgn_fence.proofs.types.fence.Fence.some_overlaps.Goals as goal

pub returns-then-overlaps : goal.returns-then-overlaps
returns-then-overlaps c =
    sym (some_left c.args.self.now c.args.items.now c.loop-item.item-index c.item-item.result c.loop-item-test.true c.item-item.is
    (sym c.overlaps.ensures ∙ c.if-overlaps.true))
    ∙ c.loop-item.invariant
