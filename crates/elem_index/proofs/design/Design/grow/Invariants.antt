use Rattle.std.proofs.Common.{◌-◌, length}
use Rattle.elem_index.specs.Design.{SameText}
use Rattle.elem_index.proofs.DesignGrowth.{Left}
use Rattle.elem_index.proofs.design.Design.grow.Given as goal

abbrev pub invariant-elements : goal.invariant-elements
invariant-elements l = Left l.self l.at × SameText l.initial.self l.self

abbrev pub decreases-elements : goal.decreases-elements
decreases-elements l = length l.self.body.items - l.at
