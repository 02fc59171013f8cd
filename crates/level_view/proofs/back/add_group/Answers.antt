use Rattle.std.proofs.Common.{◌++◌, sym, ap, ◌∙◌, List, reverse}
use Rattle.std.specs.Option.{option_to_list}
use Rattle.dgn_drawing.specs.declared.types.item.Item.{Item}
use Rattle.level_view.specs.Back.{begins_below}
use Rattle.level_view.proofs.Heads.{group_gone, group_shown}
use Rattle.level_view.proofs.Results.{ok_same}
use Rattle.level_view.proofs.back.add_group.Goals as goal

pub returns-then-head : goal.returns-then-head
returns-then-head c =
    c.cut_back.ensures
    ∙ group_gone c.args.d.now.dim c.args.place.bytes.now c.head.result c.head.ensures c.args.place.number c.args.place.depth c.args.place.end
    (reverse c.args.items.now.items) c.if-head.true

pub returns : goal.returns
returns c =
    let tested = c.begins_below.ensures ∙ ap (λ (l : List Item). begins_below c.args.place.end (reverse l)) c.deref.ensures.value in
    let put = ap (λ (l : List Item). l ++ reverse c.args.items.now.items) (ap option_to_list (rw c.dim.ensures.value at c.in_ok-item.ensures)) in
    ok_same c.put_first.result _ _ _ c.put_first.ensures
    (put ∙ group_shown c.args.d.now.dim c.args.place.bytes.now c.head.result c.head.ensures c.args.place.number c.args.place.depth c.args.place.end
    (reverse c.args.items.now.items) c.if-head.false (sym tested ∙ c.if-not-begins_below.false))
