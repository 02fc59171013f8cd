use Rattle.std.proofs.Common.{sym, ◌∙◌}
use Rattle.level_view.proofs.Heads.{deleted_hides, mask_hides, is_shown}
use Rattle.level_view.proofs.Results.{ok_lists}
use Rattle.level_view.proofs.alone.shown_alone.Goals as goal
use Rattle.level_view.proofs.alone.shown_alone.Goals.{then-head-via-then-head, then-head-via-else-head+then-not-shows}

pub returns-then-head : goal.returns-then-head
returns-then-head c =
    elim c.then-head.branch [
      | then-head-via-then-head w ↦
          deleted_hides c.args.d.now.dim c.args.place.bytes.now c.head-head.result c.head-head.ensures c.args.mask c.args.place.number c.args.place.depth
          w.if-head.true
      | then-head-via-else-head+then-not-shows w ↦
          mask_hides c.args.d.now.dim c.args.place.bytes.now c.head-head.result c.head-head.ensures c.args.mask c.args.place.number c.args.place.depth
          w.if-head.false (sym w.shows.ensures ∙ w.if-not-shows.true)
    ]

pub returns : goal.returns
returns c =
    ok_lists c.item.result _ _ (rw c.dim.ensures.value at c.item.ensures)
    (is_shown c.args.d.now.dim c.args.place.bytes.now c.head-head.result c.head-head.ensures c.args.mask c.args.place.number c.args.place.depth c.if-head.false
    (sym c.shows.ensures ∙ c.if-not-shows.false))
