use Rattle.std.proofs.Common.{◌∙◌}
use Rattle.level_view.proofs.ElementRows.{same_root}
use Rattle.level_view.proofs.drawing.Drawing.root.Goals as goal

pub returns-clause-root : goal.returns-clause-root
returns-clause-root c =
    c.root.ensures.root
    ∙ same_root c.args.self.now c.self.inside.design.now c.self.view_is c.self.inside.nest.now.rows c.self.invariant.1 c.args.n
