use Rattle.std.proofs.Common.{◌≡◌, ◌-◌}
use Rattle.patch_file.specs.Reading.{fields_at}
use Rattle.patch_file.proofs.ReadLoops.{with_front}
use Rattle.patch_file.proofs.reading.fields_of.Given as goal

-- with what was read before, the fields that are left are all of them
abbrev pub invariant-loop : goal.invariant-loop
invariant-loop l = with_front l.fields (fields_at l.from l.len (l.count - l.counter) l.rest) ≡ fields_at 0 l.len l.count l.bytes
