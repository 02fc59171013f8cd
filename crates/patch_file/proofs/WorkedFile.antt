-- A worked file, by the definitions alone: one entry, of a body of 1588 bytes, that exchanges two bytes at 1570.
use Rattle.std.proofs.Common.{◌≡◌, ℕ, List, [], ◌∷◌, ◌++◌, take, drop, Ok, refl, arith}
use Rattle.patch_file.specs.Spelling.{Packed, number, patch_spelling, IsEntry}
use Rattle.patch_file.specs.Reading.{head_at, exchange_at, field_at, fields_at, entry_at, entries_at, patch_of}
use Rattle.patch_file.specs.BadPieces.{IsBadField, BytesCut, HeadStands, IsBadEntry, FieldBad, MarkBad, EntryBad, BytesBehind, IsBadAt}

abbrev worked : List Packed
worked = record { len = 1588; fields = record { at = 1570; was = 0 ∷ 0 ∷ []; put = 0 ∷ 7 ∷ [] } ∷ []; append = [] } ∷ []

abbrev file : List ℕ
file =
    0x44 ∷ 0x47 ∷ 0x4E ∷ 0x50 ∷ 0x41 ∷ 0x54 ∷ 0x30 ∷ 0x31 ∷ 0x01 ∷ 0x00 ∷ 0x00 ∷ 0x00 ∷ 0x34 ∷ 0x06 ∷ 0x00 ∷ 0x00
    ∷ 0x01 ∷ 0x00 ∷ 0x00 ∷ 0x00 ∷ 0x00 ∷ 0x00 ∷ 0x00 ∷ 0x00 ∷ 0x22 ∷ 0x06 ∷ 0x00 ∷ 0x00 ∷ 0x02 ∷ 0x00 ∷ 0x00 ∷ 0x00 ∷ 0x07 ∷ []

pub spelled : patch_spelling worked ≡ file
unfolding number
spelled = refl

pub read : patch_of file ≡ Ok worked
unfolding patch_of head_at exchange_at field_at fields_at entry_at entries_at
read = refl

-- without its last byte: the field at 24 has three of its four bytes
pub cut : IsBadAt (take 32 file) 24
unfolding number
cut =
    let field : IsBadField 0 0x634 (drop 24 (take 32 file)) =
    BytesCut (record { at = 0x622; count = 2; rest = drop 29 (take 32 file); parts = refl; small = omega arith }) (omega arith) in
    let head : HeadStands (drop 12 (take 32 file)) = record {
      len = 0x634;
      fields = 1;
      append = 0;
      rest = drop 24 (take 32 file);
      parts = refl;
      len_small = omega arith;
      fields_small = omega arith;
      append_small = omega arith;
    } in
    let entry : IsBadEntry (drop 12 (take 32 file)) 8 =
    FieldBad head (record { fields = []; rest = head.rest; parts = refl; rules = tt }) (omega arith) field refl in
    record {
      left = 8;
      bad = EntryBad (record { count = 1; rest = drop 12 (take 32 file); parts = refl; small = omega arith })
          (record { entries = []; rest = drop 12 (take 32 file); parts = refl; each = tt }) (omega arith) entry;
      place = refl;
    }

-- with one byte more
is_entry : IsEntry (record { len = 1588; fields = record { at = 1570; was = 0 ∷ 0 ∷ []; put = 0 ∷ 7 ∷ [] } ∷ []; append = [] })
is_entry = record {
  len = omega arith;
  append = omega arith;
  rules = (record { least = omega arith; most = omega arith; same = refl; behind = omega arith; within = omega arith }, tt);
}

pub longer : IsBadAt (file ++ 0 ∷ []) 33
unfolding number
longer = record {
  left = 1;
  bad = BytesBehind (record { count = 1; rest = drop 12 (file ++ 0 ∷ []); parts = refl; small = omega arith })
      (record { entries = worked; rest = 0 ∷ []; parts = refl; each = (is_entry, tt) }) refl (omega arith) refl;
  place = refl;
}

-- and without any
pub empty : IsBadAt [] 0
empty = record { left = 0; bad = MarkBad (λ rest is. let e = is in cc) refl; place = refl }
