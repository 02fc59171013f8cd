use Rattle.std.proofs.Common.{◌-◌}
use Rattle.dgn_drawing.specs.Shown.{tree_shown}
use Rattle.dgn_fence.specs.Taken.{takes}
use Rattle.elem_index.specs.Design.{elements}
use Rattle.level_view.proofs.TakenRoots.{StandsAt}
use Rattle.dgn_session.proofs.selecting.select.Given as goal

abbrev pub invariant-roots : goal.invariant-roots
invariant-roots l = StandsAt (elements l.d) (λ n. takes l.mode l.fence (tree_shown l.d.dim l.mask (elements l.d) n))
    l.root l.found.items

abbrev pub decreases-roots : goal.decreases-roots
decreases-roots l = l.count - l.root
