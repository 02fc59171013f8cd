use Rattle.elem_index.specs.Design.{elements}
use Rattle.dgn_listing.specs.TreeTexts.{element_text}
use Rattle.dgn_listing.proofs.NumberTexts.{HasCounted}
use Rattle.dgn_listing.proofs.tree.put_elements.Given as goal

abbrev pub invariant-loop-n : goal.invariant-loop-n
invariant-loop-n l = HasCounted (element_text (elements l.d)) l.first l.n l.fn.out.items l.out.items
