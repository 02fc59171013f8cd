use Rattle.std.proofs.Common.{◌≡◌, ◌+◌, take, length, min}
use Rattle.std.specs.List.{flat_map}
use Rattle.patch_file.specs.PatchView.{all_packed}
use Rattle.patch_file.specs.Spelling.{entry_spelling}
use Rattle.patch_file.proofs.sizes.patch_len.Given as goal

-- the length so far, as far as the number goes
abbrev pub invariant-loop-entry : goal.invariant-loop-entry
invariant-loop-entry l = l.len ≡ min (12 + length (flat_map entry_spelling (all_packed (take l.entry-index l.entries)))) 18446744073709551615
