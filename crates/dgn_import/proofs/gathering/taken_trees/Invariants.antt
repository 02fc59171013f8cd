use Rattle.std.proofs.Common.{◌-◌}
use Rattle.std.specs.Prelude.{option_map}
use Rattle.elem_index.specs.Design.{elements}
use Rattle.dgn_import.proofs.TreesGathered.{AreGathered}
use Rattle.dgn_import.proofs.gathering.taken_trees.Given as goal

abbrev pub invariant-roots : goal.invariant-roots
invariant-roots l = AreGathered l.d.dim (elements l.d) (option_map (λ b. b.now) l.by) l.root l.bytes l.trees

abbrev pub decreases-roots : goal.decreases-roots
decreases-roots l = l.count - l.root
