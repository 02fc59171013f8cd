use Rattle.std.proofs.Common.{◌≡◌, ◌-◌, length}
use Rattle.dgn_drawing.specs.Opening.{dimension}
use Rattle.elem_index.proofs.FileWalk.{Counted}
use Rattle.elem_index.proofs.walk.count_in.Given as goal

abbrev pub invariant-elements : goal.invariant-elements
invariant-elements l = (l.walk.dim ≡ dimension l.f) × Counted l.f l.count l.walk.at

abbrev pub decreases-elements : goal.decreases-elements
decreases-elements l = length l.f - l.walk.at
