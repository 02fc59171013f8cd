use Rattle.std.proofs.Common.{◌≡◌, List, ℕ, Bool, reverse, sym, ap, ◌∙◌}
use Rattle.std.specs.Prelude.{◌&&◌}
use Rattle.level_view.specs.Numbers.{first_below, has_item}
use Rattle.level_view.proofs.NumbersShown.{gone_group, shown_group}
use Rattle.level_view.proofs.Results.{ok_same}
use Rattle.level_view.proofs.numbering.add_group.Goals as goal
use Rattle.level_view.proofs.numbering.add_group.Goals.{then-first_below, else-first_below}

pub returns-then-head : goal.returns-then-head
returns-then-head c =
    c.cut_below.ensures
    ∙ gone_group c.args._dim c.args.place.bytes.now c.head-head.result c.head-head.ensures c.args.place.number c.args.place.end
    (reverse c.args.numbers.now.items) c.if-head.true

pub returns : goal.returns
returns c =
    let below : c.first_below.result ≡ first_below c.args.place.end (reverse c.args.numbers.now.items) =
    c.first_below.ensures ∙ ap (λ (l : List ℕ). first_below c.args.place.end (reverse l)) c.deref.ensures.value in
    let shown : c.if-first_below.shown ≡ (first_below c.args.place.end (reverse c.args.numbers.now.items) && has_item c.head-head.result.kind) =
    elim c.if-first_below.branch [
      | then-first_below w ↦ w.shown-is ∙ w.has_item-shown.ensures
          ∙ ap (λ (t : Bool). t && has_item c.head-head.result.kind) (sym w.if-first_below.true ∙ below)
      | else-first_below w ↦ w.shown-is ∙ w.if-first_below.false ∙ ap (λ (t : Bool). t && has_item c.head-head.result.kind) (sym w.if-first_below.false ∙ below)
    ] in
    ok_same c.put_number.result _ _ _ c.put_number.ensures
    (shown_group c.args._dim c.args.place.bytes.now c.head-head.result c.head-head.ensures c.args.place.number c.args.place.end
    (reverse c.args.numbers.now.items) c.if-head.false c.if-first_below.shown shown)
