use Rattle.std.proofs.Common.{◌≡◌, ℕ, Bool, ap, sym, ◌∙◌}
use Rattle.dgn_drawing.specs.Reading.{element_at}
use Rattle.dgn_drawing.specs.Shown.{its_item, shown_alone}
use Rattle.dgn_fence.specs.Taken.{takes}
use Rattle.level_view.proofs.Heads.{deleted_hides, mask_hides, is_shown}
use Rattle.dgn_session.proofs.LoneElements.{nothing_taken, ok_then}
use Rattle.dgn_session.proofs.selecting.takes_lone.Goals as goal
use Rattle.dgn_session.proofs.selecting.takes_lone.Goals.{then-head-via-then-head, then-head-via-else-head+then-not-shows}

pub returns-then-head : goal.returns-then-head
returns-then-head c = λ number depth.
    nothing_taken c.args.mode c.args.fence.now
    ∙ ap (takes c.args.mode c.args.fence.now) (elim c.then-head.branch [
      | then-head-via-then-head w ↦ deleted_hides c.args.d.now.dim c.args.b.now c.head-head.result c.head-head.ensures c.args.mask number depth w.if-head.true
      | then-head-via-else-head+then-not-shows w ↦
          mask_hides c.args.d.now.dim c.args.b.now c.head-head.result c.head-head.ensures c.args.mask number depth w.if-head.false
          (sym w.shows.ensures ∙ w.if-not-shows.true)
    ])

pub returns : goal.returns
returns c =
    ok_then c.takes_element.result
    (λ (taken : Bool). (number depth : ℕ)
    → taken ≡ takes c.args.mode c.args.fence.now (its_item c.args.d.now.dim number depth (element_at c.args.d.now.dim c.args.b.now)))
    (λ (taken : Bool). (number depth : ℕ)
    → taken ≡ takes c.args.mode c.args.fence.now (shown_alone c.args.d.now.dim c.args.mask number depth (element_at c.args.d.now.dim c.args.b.now)))
    (λ taken is number depth. is number depth
    ∙ ap (takes c.args.mode c.args.fence.now)
    (is_shown c.args.d.now.dim c.args.b.now c.head-head.result c.head-head.ensures c.args.mask number depth c.if-head.false
    (sym c.shows.ensures ∙ c.if-not-shows.false)))
    (rw c.dim.ensures.value at c.takes_element.ensures)
