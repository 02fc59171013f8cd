use Rattle.std.proofs.Common.{◌≡◌, ◌<◌, ◌++◌, length, reverse}
use Rattle.dgn_drawing.specs.Rows.{row_of}
use Rattle.elem_index.specs.Design.{elements}
use Rattle.dgn_drawing.specs.Numbering.{headers_of}
use Rattle.edit_ops.proofs.parts.above.put_numbers_above.Given as goal

abbrev pub invariant-up : goal.invariant-up
invariant-up l = (l.i < length (elements l.d)) × (headers_of row_of (elements l.d) l.i ++ reverse l.above.items ≡ headers_of row_of (elements l.d) l.n)

abbrev pub decreases-up : goal.decreases-up
decreases-up l = l.i
