use Rattle.std.proofs.Common.{◌≡◌, ◌+◌, take, map, length, min}
use Rattle.std.specs.List.{flat_map}
use Rattle.patch_file.specs.FieldView.{exchange_of}
use Rattle.patch_file.specs.Spelling.{field_spelling}
use Rattle.patch_file.proofs.sizes.entry_len.Given as goal

-- the length so far, as far as the number goes
abbrev pub invariant-loop-field : goal.invariant-loop-field
invariant-loop-field l = l.len ≡ min (12 + length (flat_map field_spelling (map exchange_of (take l.field-index l.field-items)))) 18446744073709551615
