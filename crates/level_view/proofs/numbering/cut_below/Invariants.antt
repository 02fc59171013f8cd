use Rattle.std.proofs.Common.{◌≡◌, reverse}
use Rattle.std.specs.Prelude.{vec_len}
use Rattle.level_view.specs.Numbers.{numbers_past}
use Rattle.level_view.proofs.numbering.cut_below.Given as goal

abbrev pub invariant-loop-numbers : goal.invariant-loop-numbers
invariant-loop-numbers l = numbers_past l.end (reverse l.numbers.items) ≡ numbers_past l.end (reverse l.initial.numbers.items)

abbrev pub decreases-loop-numbers : goal.decreases-loop-numbers
decreases-loop-numbers l = vec_len l.numbers
