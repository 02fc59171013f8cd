use Rattle.undo_log.proofs.PutsExchanged.{AreSwapped}
use Rattle.undo_log.proofs.swaps.swap_all.Given as goal

abbrev pub invariant-loop-i : goal.invariant-loop-i
invariant-loop-i l = AreSwapped l.buf l.patches l.i l.initial.buf l.initial.patches
