use Rattle.std.proofs.Common.{◌≡◌, ℕ, ◌<◌, List, length, sym, ap, ◌∙◌, subst, arith}
use Rattle.dgn_drawing.specs.Shown.{tree_shown}
use Rattle.dgn_fence.specs.Taken.{takes}
use Rattle.elem_index.specs.Design.{elements}
use Rattle.level_view.proofs.TakenRoots.{StandsAt, stands_first, all_found, further, stands_taken, stands_left}
use Rattle.dgn_session.proofs.selecting.select.Goals as goal
use Rattle.dgn_session.proofs.selecting.select.Goals.{then-taken+in_ok-push, else-taken}

pub roots-init : goal.roots-init
roots-init c =
    subst (StandsAt (elements c.args.d.now)
    (λ n. takes c.args.mode c.args.fence.now (tree_shown c.args.d.now.dim c.args.mask (elements c.args.d.now) n)) 0)
    (sym c.new-found.ensures.items)
    (stands_first (elements c.args.d.now)
    (λ n. takes c.args.mode c.args.fence.now (tree_shown c.args.d.now.dim c.args.mask (elements c.args.d.now) n)))

pub roots-smaller : goal.roots-smaller
roots-smaller c =
    let known : c.roots.root < length (elements c.args.d.now) = omega (arith, c.roots-test.true, c.count-count.ensures) in
    let on : c.roots.root < c.part_end-root.result =
    further (elements c.args.d.now)
    (λ n. takes c.args.mode c.args.fence.now (tree_shown c.args.d.now.dim c.args.mask (elements c.args.d.now) n))
    c.roots.root c.part_end-root.result c.roots.found.items c.roots.invariant known c.part_end-root.ensures in
    omega (arith, c.roots-test.true)

pub roots-preserved : goal.roots-preserved
roots-preserved c =
    let known : c.roots.root < length (elements c.args.d.now) = omega (arith, c.roots-test.true, c.count-count.ensures) in
    let asked : c.in_ok-taken.taken
    ≡ takes c.args.mode c.args.fence.now (tree_shown c.args.d.now.dim c.args.mask (elements c.args.d.now) c.roots.root) =
    c.in_ok-taken.ensures in
    elim c.if-taken.branch [
      | then-taken+in_ok-push w ↦
          subst (λ (ns : List ℕ). StandsAt (elements c.args.d.now)
          (λ n. takes c.args.mode c.args.fence.now (tree_shown c.args.d.now.dim c.args.mask (elements c.args.d.now) n)) c.part_end-root.result ns)
          (sym (ap (λ v. v.items) w.found-is ∙ w.in_ok-push.ensures.items))
          (stands_taken (elements c.args.d.now)
          (λ n. takes c.args.mode c.args.fence.now (tree_shown c.args.d.now.dim c.args.mask (elements c.args.d.now) n))
          c.roots.root c.part_end-root.result c.roots.found.items c.roots.invariant known c.part_end-root.ensures (sym asked ∙ w.if-taken.true))
      | else-taken w ↦
          subst (λ (ns : List ℕ). StandsAt (elements c.args.d.now)
          (λ n. takes c.args.mode c.args.fence.now (tree_shown c.args.d.now.dim c.args.mask (elements c.args.d.now) n)) c.part_end-root.result ns)
          (sym (ap (λ v. v.items) w.found-is))
          (stands_left (elements c.args.d.now)
          (λ n. takes c.args.mode c.args.fence.now (tree_shown c.args.d.now.dim c.args.mask (elements c.args.d.now) n))
          c.roots.root c.part_end-root.result c.roots.found.items c.roots.invariant known c.part_end-root.ensures (sym asked ∙ w.if-taken.false))
    ]

pub returns : goal.returns
returns c =
    all_found (elements c.args.d.now)
    (λ n. takes c.args.mode c.args.fence.now (tree_shown c.args.d.now.dim c.args.mask (elements c.args.d.now) n))
    c.roots.root c.roots.found.items (omega (arith, c.roots-test.false, c.count-count.ensures)) c.roots.invariant
