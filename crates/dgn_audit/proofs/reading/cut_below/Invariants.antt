use Rattle.std.proofs.Common.{◌≡◌, reverse}
use Rattle.std.specs.Prelude.{vec_len}
use Rattle.dgn_audit.specs.OpenBoxes.{past}
use Rattle.dgn_audit.proofs.reading.cut_below.Given as goal

abbrev pub invariant-loop-noted : goal.invariant-loop-noted
invariant-loop-noted l = past l.end (reverse l.noted.items) ≡ past l.end (reverse l.initial.noted.items)

abbrev pub decreases-loop-noted : goal.decreases-loop-noted
decreases-loop-noted l = vec_len l.noted
