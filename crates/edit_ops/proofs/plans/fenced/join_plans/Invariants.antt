use Rattle.std.proofs.Common.{length, drop}
use Rattle.elem_index.specs.Design.{elements}
use Rattle.edit_ops.proofs.JoinedPlans.{AreJoined}
use Rattle.edit_ops.proofs.plans.fenced.join_plans.Given as goal

-- what is joined so far and what the roots that are left give are what all give
abbrev pub invariant-roots : goal.invariant-roots
invariant-roots l = AreJoined l.d.dim (elements l.d) (length l.d.tail.items) l.edit l.roots (drop l.n-index l.roots) l.all.patches l.all.append
