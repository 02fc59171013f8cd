-- No segment touches an edge that all of them miss.
use Rattle.std.proofs.Common.{◌∙◌, sym}
use Rattle.dgn_fence.proofs.FenceMisses.{edge_missed}
use Rattle.dgn_fence.proofs.edges.touches_edge.Goals as goal

pub returns-then-misses : goal.returns-then-misses
returns-then-misses c = sym (edge_missed c.args.item.now c.args.around c.args.r c.args.s c.requires (sym c.misses.ensures ∙ c.if-misses.true))
