use Rattle.std.proofs.Common.{◌≡◌, take, map}
use Rattle.dgn_drawing.specs.Items.{in_space}
use Rattle.dgn_drawing.proofs.items.points.Given as goal

abbrev pub invariant-loop-i : goal.invariant-loop-i
invariant-loop-i g l = l.list ≡ map in_space (take l.i l.path)
