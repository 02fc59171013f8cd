use Rattle.std.proofs.Common.{◌≡◌, drop, map, length}
use Rattle.patch_bytes.specs.Puts.{write, AreWithin}
use Rattle.patch_file.specs.FieldView.{exchange_of}
use Rattle.patch_file.specs.Standing.{new_of}
use Rattle.patch_file.proofs.applying.put_fields.Given as goal

-- what is left to write gives what all of it gave
abbrev pub invariant-loop-field : goal.invariant-loop-field
invariant-loop-field l = record {
  within : AreWithin (length l.body) (map new_of (map exchange_of (drop l.field-index l.fields)));
  same : write l.body (map new_of (map exchange_of (drop l.field-index l.fields))) ≡ write l.initial.body (map new_of (map exchange_of l.fields));
}
