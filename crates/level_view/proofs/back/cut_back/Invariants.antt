use Rattle.std.proofs.Common.{◌≡◌, reverse}
use Rattle.std.specs.Prelude.{vec_len}
use Rattle.level_view.specs.Back.{past}
use Rattle.level_view.proofs.back.cut_back.Given as goal

abbrev pub invariant-loop-items : goal.invariant-loop-items
invariant-loop-items l = past l.end (reverse l.items.items) ≡ past l.end (reverse l.initial.items.items)

abbrev pub decreases-loop-items : goal.decreases-loop-items
decreases-loop-items l = vec_len l.items
