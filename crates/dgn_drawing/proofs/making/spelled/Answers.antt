use Rattle.std.proofs.Common.{◌≡◌, ap, ◌∙◌, subst}
use Rattle.dgn_drawing.specs.NewElements.{NewElement, IsNew}
use Rattle.dgn_drawing.proofs.MadeBytes.{spell_pieces}
use Rattle.dgn_drawing.proofs.making.spelled.Goals as goal

pub returns : goal.returns
returns c =
    let good : IsNew c.args.new.now = subst IsNew c.new.view_is c.new.invariant in
    let axes : c.from.result ≡ c.args.new.now.axes = c.from.ensures ∙ ap (λ (n : NewElement). n.axes) c.new.view_is in
    let shape : c.new.inside.shape ≡ c.args.new.now.shape = ap (λ (n : NewElement). n.shape) c.new.view_is in
    c.from_vec.ensures
    ∙ spell_pieces c.args.new.now good axes shape c.new-bytes.ensures.items c.in_ok-push_head.ensures c.in_ok-push_display.ensures
    c.in_ok-push_shape.ensures
