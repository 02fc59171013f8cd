-- Nothing outside of the bounds is within.
use Rattle.std.proofs.Common.{◌∙◌, sym}
use Rattle.dgn_fence.proofs.FenceMisses.{start_outside}
use Rattle.dgn_fence.proofs.types.fence.Fence.begins_within.Goals as goal

pub returns-else-holds : goal.returns-else-holds
returns-else-holds c =
    rw (← c.self.view_is) (c.if-holds.false
    ∙ sym (start_outside _ _ _ _ c.self.invariant.bounded (sym c.in-Some.ensures) (sym c.holds.ensures ∙ c.if-holds.false)))
