use Rattle.std.proofs.Common.{◌≡◌, map, take}
use Rattle.dgn_drawing.specs.Rows.{row_of}
use Rattle.elem_index.specs.Design.{elements}
use Rattle.elem_index.proofs.design.Design.rows.Given as goal

abbrev pub invariant-loop-n : goal.invariant-loop-n
invariant-loop-n l = l.rows.items ≡ map row_of (take l.n (elements l.self))
