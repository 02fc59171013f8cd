use Rattle.std.proofs.Common.{ap, ◌∙◌}
use Rattle.elem_index.specs.Kinds.{totals_kept}
use Rattle.elem_index.specs.Design.{elements}
use Rattle.elem_index.proofs.KindBytes.{totals-kinds_in}
use Rattle.elem_index.proofs.Places.{opening_of}
use Rattle.elem_index.proofs.design.Design.totals.Goals as goal

pub returns : goal.returns
returns c =
    let d = c.args.self.now in
    c.totals.ensures ∙ ap totals_kept c.requires.kinds ∙ totals-kinds_in d.dim (elements d) (opening_of d c.requires).each
