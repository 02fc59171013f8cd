use Rattle.std.proofs.Common.{ap, ◌∙◌}
use Rattle.std.specs.Prelude.{Option, option_map}
use Rattle.dgn_drawing.specs.Numbering.{Mark}
use Rattle.level_view.proofs.ElementRows.{same_mark}
use Rattle.level_view.proofs.RowSizes.{rows_sized}
use Rattle.level_view.proofs.drawing.Drawing.depth.Goals as goal

pub returns-clause-depth : goal.returns-clause-depth
returns-clause-depth c =
    c.depth.ensures.depth ∙ ap (λ (m : Option Mark). option_map (λ (x : Mark). x.depth) m)
    (same_mark c.args.self.now c.self.inside.design.now c.self.view_is c.self.inside.nest.now.rows c.self.invariant.1 c.args.n)

pub returns-clause-low : goal.returns-clause-low
returns-clause-low c =
    c.depth.ensures.low (rows_sized c.self.inside.design.now c.self.invariant.0 c.self.inside.nest.now.rows c.self.invariant.1)
