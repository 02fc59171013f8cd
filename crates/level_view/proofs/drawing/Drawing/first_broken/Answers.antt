use Rattle.std.proofs.Common.{◌∙◌}
use Rattle.level_view.proofs.ElementRows.{same_broken}
use Rattle.level_view.proofs.drawing.Drawing.first_broken.Goals as goal

pub returns-clause-first : goal.returns-clause-first
returns-clause-first c =
    c.first_broken.ensures.first
    ∙ same_broken c.args.self.now c.self.inside.design.now c.self.view_is c.self.inside.nest.now.rows c.self.invariant.1 c.args.n
