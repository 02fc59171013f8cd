-- What a patch entry packs.
use Rattle.std.specs.Prelude.{List, map}
use Rattle.patch_file.specs.declared.patch_entry.PatchEntry.{PatchEntry}
use Rattle.patch_file.specs.Spelling.{Packed}

-- its fields without the facts that the type keeps
abbrev pub packed_of : PatchEntry → Packed
packed_of e = record { len = e.len; fields = e.fields; append = e.append }

abbrev pub all_packed : List PatchEntry → List Packed
all_packed es = map packed_of es
