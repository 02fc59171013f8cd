use Rattle.std.proofs.Common.{sym, ◌∙◌}
use Rattle.dgn_drawing.specs.Items.{item_of}
use Rattle.dgn_drawing.specs.Reading.{element_at}
use Rattle.dgn_fence.proofs.Outlines.{begun_in, begins_taken, anywhere}
use Rattle.dgn_fence.proofs.types.fence.Fence.takes_element.Goals as goal

-- the bounds of an outline hold its first point
pub begins_by_bounds-requires : goal.begins_by_bounds-requires
begins_by_bounds-requires c =
    record { begins = begun_in (item_of c.args.dim 0 0 (element_at c.args.dim c.args.b.now)) c.in-Some.outline (sym c.in-Some.ensures) }

pub returns-in-Some-begins_by_bounds : goal.returns-in-Some-begins_by_bounds
returns-in-Some-begins_by_bounds c = λ number depth.
    c.untouched_taken.ensures
    ∙ sym (begins_taken c.args.mode c.args.self.now (item_of c.args.dim 0 0 (element_at c.args.dim c.args.b.now))
    c.in-Some.outline c.in-Some-begins_by_bounds.begins (sym c.in-Some.ensures) (sym c.in-Some-begins_by_bounds.ensures))
    ∙ anywhere c.args.mode c.args.self.now c.args.dim number depth (element_at c.args.dim c.args.b.now)
