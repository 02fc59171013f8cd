use Rattle.std.proofs.Common.{◌≡◌, ◌-◌, length}
use Rattle.dgn_drawing.specs.Opening.{dimension}
use Rattle.elem_index.proofs.FileWalk.{Going}
use Rattle.elem_index.proofs.walk.elements_in.Given as goal

abbrev pub invariant-elements : goal.invariant-elements
invariant-elements l = (l.walk.dim ≡ dimension l.f) × Going l.f l.kept.items l.kinds.items l.walk.at

abbrev pub decreases-elements : goal.decreases-elements
decreases-elements l = length l.f - l.walk.at
