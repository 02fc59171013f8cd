use Rattle.std.proofs.Common.{◌≡◌, sym, ap, ◌∙◌, subst}
use Rattle.dgn_drawing.specs.NewElements.{NewElement, IsNew}
use Rattle.dgn_drawing.specs.NewElements.{size_made as size_in}
use Rattle.dgn_drawing.proofs.MadeElements.{size-made}
use Rattle.dgn_drawing.proofs.making.size_made.Goals as goal

pub returns-clause-size : goal.returns-clause-size
returns-clause-size c =
    let good : IsNew c.args.new.now = subst IsNew c.new.view_is c.new.invariant in
    let size : c.shape_size.result ≡ size_in c.new.inside.axes c.new.inside.shape = cc in
    size ∙ ap (λ (n : NewElement). size_in n.axes n.shape) c.new.view_is ∙ sym (size-made c.args.new.now good)
