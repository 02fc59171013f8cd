use Rattle.elem_index.specs.Design.{elements}
use Rattle.dgn_session.proofs.ItemsApart.{ClearTo}
use Rattle.dgn_session.proofs.selecting.some_overlaps.Given as goal

-- no element before the next one overlaps the fence by itself
abbrev pub invariant-elements : goal.invariant-elements
invariant-elements l = ClearTo l.fence l.d.dim (elements l.d) l.root l.n
