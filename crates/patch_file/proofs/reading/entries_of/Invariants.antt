use Rattle.std.proofs.Common.{◌≡◌, ◌-◌}
use Rattle.patch_file.specs.PatchView.{all_packed}
use Rattle.patch_file.specs.Reading.{entries_at}
use Rattle.patch_file.proofs.ReadLoops.{with_front}
use Rattle.patch_file.proofs.reading.entries_of.Given as goal

-- with what was read before, the entries that are left are all of them
abbrev pub invariant-loop : goal.invariant-loop
invariant-loop l = with_front (all_packed l.entries.items) (entries_at (l.count - l.counter) l.rest) ≡ entries_at l.count l.bytes
