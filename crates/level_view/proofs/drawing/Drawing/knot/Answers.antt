use Rattle.std.proofs.Common.{ap, ◌∙◌}
use Rattle.std.specs.Prelude.{Option, option_map}
use Rattle.dgn_drawing.specs.Numbering.{Mark}
use Rattle.nest_tree.specs.Shapes.{code_knot}
use Rattle.level_view.proofs.ElementRows.{same_mark}
use Rattle.level_view.proofs.drawing.Drawing.knot.Goals as goal

pub returns-clause-knot : goal.returns-clause-knot
returns-clause-knot c =
    c.knot.ensures.knot ∙ ap (λ (m : Option Mark). option_map code_knot (option_map (λ (x : Mark). x.knot) m))
    (same_mark c.args.self.now c.self.inside.design.now c.self.view_is c.self.inside.nest.now.rows c.self.invariant.1 c.args.n)
