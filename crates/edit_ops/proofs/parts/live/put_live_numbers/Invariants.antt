use Rattle.std.proofs.Common.{◌-◌}
use Rattle.elem_index.specs.Design.{elements}
use Rattle.edit_ops.proofs.LiveWalk.{IsLeft}
use Rattle.edit_ops.proofs.parts.live.put_live_numbers.Given as goal

abbrev pub invariant-elements : goal.invariant-elements
invariant-elements l = IsLeft (elements l.d) l.n l.end l.i l.live.items

abbrev pub decreases-elements : goal.decreases-elements
decreases-elements l = l.end - l.i
