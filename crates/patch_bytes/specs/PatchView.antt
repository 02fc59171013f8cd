-- What a patch puts.
use Rattle.std.specs.Prelude.{◌≡◌, take}
use Rattle.patch_bytes.specs.declared.patch.Patch.{Patch}
use Rattle.patch_bytes.specs.Puts.{Put}

-- its first `len` bytes, at its place
abbrev pub put_of : Patch → Put
put_of p = record { at = p.at; bytes = take p.len p.bytes }

-- patches that put the same are the same
abbrev pub PutsTell : Patch → Patch → Type 0
PutsTell p q = put_of p ≡ put_of q → p ≡ q
