-- What lies strictly inside an upright rectangle misses its edges and begins within it.
use Rattle.std.proofs.Common.{◌∙◌, sym}
use Rattle.dgn_fence.proofs.Rectangles.{begins_inside}
use Rattle.dgn_fence.proofs.types.fence.Fence.begins_by_bounds.Goals as goal

pub returns-then-is_enclosed : goal.returns-then-is_enclosed
returns-then-is_enclosed c =
    rw (← c.self.view_is) (sym
    (begins_inside c.args.outline c.self.inside.corners.items c.self.inside.bounds c.self.invariant.bounded (sym c.self.invariant.shaped ∙ c.if-self.true)
    (sym c.is_enclosed.ensures ∙ c.if-is_enclosed.true) c.requires.begins (sym c.is_apart.ensures ∙ c.if-is_apart.false)))
