use Rattle.std.proofs.Common.{sym, ◌∙◌}
use Rattle.level_view.proofs.NumbersShown.{gone_alone, hidden_alone, seen_alone}
use Rattle.level_view.proofs.numbering.is_alone.Goals as goal
use Rattle.level_view.proofs.numbering.is_alone.Goals.{then-head-via-then-head, then-head-via-else-head+then-not-shows}

pub returns-then-head : goal.returns-then-head
returns-then-head c =
    elim c.then-head.branch [
      | then-head-via-then-head w ↦ gone_alone c.args._dim c.args.b.now c.head-head.result c.head-head.ensures c.args.mask w.if-head.true
      | then-head-via-else-head+then-not-shows w ↦
          hidden_alone c.args._dim c.args.b.now c.head-head.result c.head-head.ensures c.args.mask w.if-head.false (sym w.shows.ensures ∙ w.if-not-shows.true)
    ]

pub returns : goal.returns
returns c =
    c.has_item.ensures
    ∙ seen_alone c.args._dim c.args.b.now c.head-head.result c.head-head.ensures c.args.mask c.if-head.false (sym c.shows.ensures ∙ c.if-not-shows.false)
