-- Signs are equal where their numbers lie on one side.
use Rattle.plane_geom.proofs.TestOfTouch.{equal_signs, no_sign}
use Rattle.dgn_fence.proofs.bounds.on_one_side.Goals as goal

pub returns-then-first-ne0 : goal.returns-then-first-ne0
returns-then-first-ne0 c = equal_signs _ _ c.side-first.result c.side.result c.side-first.ensures c.side.ensures c.if-first-ne0.true

pub returns-else-first-ne0 : goal.returns-else-first-ne0
returns-else-first-ne0 c = rw c.if-first-ne0.false (no_sign _ _ c.side-first.result c.side-first.ensures c.if-first-ne0.false)
