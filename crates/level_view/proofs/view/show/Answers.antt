use Rattle.std.proofs.Common.{◌≡◌, ◌-◌, length, ap, ◌∙◌, arith}
use Rattle.elem_index.specs.Design.{elements}
use Rattle.level_view.specs.Back.{read_back}
use Rattle.level_view.proofs.ItemsBack.{all_found}
use Rattle.level_view.proofs.view.show.Goals as goal

pub returns : goal.returns
returns c =
    let all : c.count.result - 0 ≡ length (elements c.args.d.now) = omega (arith, c.count.ensures) in
    c.in_ok-put_between.ensures
    ∙ ap (read_back c.args.d.now.dim c.args.mask (elements c.args.d.now) 0) all ∙ all_found c.args.d.now.dim c.args.mask (elements c.args.d.now)
