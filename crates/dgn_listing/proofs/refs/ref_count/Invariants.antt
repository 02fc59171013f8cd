use Rattle.std.proofs.Common.{◌≡◌, take}
use Rattle.elem_index.specs.Design.{elements}
use Rattle.dgn_listing.specs.RefTexts.{ref_count}
use Rattle.dgn_listing.proofs.refs.ref_count.Given as goal

abbrev pub invariant-loop-n : goal.invariant-loop-n
invariant-loop-n l = l.found ≡ ref_count (take l.n (elements l.d))
