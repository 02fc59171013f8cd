-- Signs split as their numbers do.
use Rattle.plane_geom.proofs.Signs.{zero_splits, unequal_splits}
use Rattle.plane_geom.proofs.segments.splits.Goals as goal

pub returns-then-first-eq0 : goal.returns-then-first-eq0
returns-then-first-eq0 c = zero_splits _ _ c.side-first.result c.side-first.ensures c.if-first-eq0.true

pub returns-else-first-eq0 : goal.returns-else-first-eq0
returns-else-first-eq0 c = unequal_splits _ _ c.side-first.result c.side.result c.side-first.ensures c.side.ensures c.if-first-eq0.false
