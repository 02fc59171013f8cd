use Rattle.std.proofs.Common.{Option, ap, sym, ◌∙◌}
use Rattle.std.specs.Option.{option_to_list}
use Rattle.dgn_drawing.specs.declared.types.item.Item.{Item}
use Rattle.dgn_drawing.specs.Reading.{element_at}
use Rattle.dgn_fence.specs.Taken.{takes}
use Rattle.dgn_fence.proofs.Outlines.{anywhere}
use Rattle.dgn_fence.proofs.types.fence.Fence.takes_made.Goals as goal

pub returns-in-Some : goal.returns-in-Some
returns-in-Some c = λ number depth.
    c.takes.ensures
    ∙ ap (λ (o : Option Item). takes c.args.mode c.args.self.now (option_to_list o)) (sym c.in-Some.is ∙ c.in_ok-item.ensures)
    ∙ anywhere c.args.mode c.args.self.now c.args.dim number depth (element_at c.args.dim c.args.b.now)
