use Rattle.std.proofs.Common.{◌≡◌, ◌-◌, reverse}
use Rattle.elem_index.specs.Design.{elements}
use Rattle.level_view.specs.Back.{read_back}
use Rattle.level_view.specs.Numbers.{numbers_of}
use Rattle.level_view.proofs.counting.numbers_shown.Given as goal

abbrev pub invariant-loop-n : goal.invariant-loop-n
invariant-loop-n l = reverse l.numbers.items ≡ numbers_of (read_back l.d.dim l.mask (elements l.d) l.n (l.end - l.n))
