use Rattle.std.proofs.Common.{◌≡◌, ◌-◌, ◌≤◌, reverse}
use Rattle.elem_index.specs.Design.{elements}
use Rattle.level_view.specs.Back.{read_back}
use Rattle.level_view.proofs.view.put_between.Given as goal

abbrev pub invariant-loop-n : goal.invariant-loop-n
invariant-loop-n l = record {
  after : l.first ≤ l.n;
  found : reverse l.items.items ≡ read_back l.d.dim l.mask (elements l.d) l.n (l.end - l.n);
}
