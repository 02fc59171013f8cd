use Rattle.std.proofs.Common.{◌≡◌, ◌+◌, ◌-◌, ◌≤◌}
use Rattle.edit_script.specs.Levels.{with_levels}
use Rattle.edit_script.proofs.levels.with_levels.Given as goal

abbrev pub invariant-levels : goal.invariant-levels
invariant-levels l = record {
  masks : with_levels l.all l.level (l.last + 1 - l.level) ≡ with_levels l.mask l.first (l.last + 1 - l.first);
  within : l.level ≤ l.last + 1;
}
