use Rattle.elem_index.specs.Design.{elements}
use Rattle.dgn_listing.specs.RefTexts.{ref_line}
use Rattle.dgn_listing.proofs.NumberTexts.{HasCounted}
use Rattle.dgn_listing.proofs.refs.put_refs.Given as goal

abbrev pub invariant-loop-n : goal.invariant-loop-n
invariant-loop-n l = HasCounted (ref_line (elements l.d)) 0 l.n l.fn.out.items l.out.items
