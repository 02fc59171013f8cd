use Rattle.std.proofs.Common.{◌-◌, vec_len}
use Rattle.dgn_tool.proofs.PackedEntries.{TakenSo}
use Rattle.dgn_tool.proofs.pack.take_all.Given as goal

abbrev pub invariant-entries : goal.invariant-entries
invariant-entries l = TakenSo l.fn.session l.session l.taken.items

abbrev pub decreases-entries : goal.decreases-entries
decreases-entries l = l.count - vec_len l.taken
