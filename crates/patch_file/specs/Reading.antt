-- Reading a patch file from left to right, piece by piece, up to the first bad one (BadPieces). Reading gives a value and the
-- bytes behind it, or how many bytes there are from where the bad piece begins to the end of the file.
use Rattle.std.specs.Prelude.{ℕ, zero, suc, ◌+◌, Bool, ◌&&◌, List, [], ◌∷◌, length, take, drop, Result, Ok, Err, nat_lt, nat_le, nat_eq, ◌==◌}
use Rattle.std.specs.Prelude.{if◌then◌else◌}
use Rattle.std.specs.Int.{w32, from_le_bytes}
use Rattle.std.specs.List.{starts_with}
use Rattle.patch_file.specs.Exchanges.{Exchange}
use Rattle.patch_file.specs.Spelling.{Packed, mark}

-- what is read next, where nothing bad was met before
infixl 10 ◌>>=◌
abbrev pub ◌>>=◌ : {A B : Type 0} → Result A ℕ → (A → Result B ℕ) → Result B ℕ
(Ok x) >>= f = f x
(Err left) >>= f = Err left

-- Parts of a piece from whose first byte on there are `left` bytes.

-- n bytes
abbrev pub bytes_at : ℕ → ℕ → List ℕ → Result (List ℕ × List ℕ) ℕ
bytes_at left n bytes = if nat_lt (length bytes) n then Err left else Ok (take n bytes, drop n bytes)

abbrev pub number_at : ℕ → List ℕ → Result (ℕ × List ℕ) ℕ
number_at left bytes = if nat_lt (length bytes) 4 then Err left else Ok (from_le_bytes w32 (take 4 bytes), drop 4 bytes)

abbrev pub byte_at : ℕ → List ℕ → Result (ℕ × List ℕ) ℕ
byte_at left [] = Err left
byte_at left (b ∷ rest) = Ok (b, rest)

-- Pieces.

-- the mark
abbrev pub mark_at : List ℕ → Result (List ℕ) ℕ
mark_at bytes = if starts_with nat_eq bytes mark then Ok (drop 8 bytes) else Err (length bytes)

-- the old length, the number of fields and that of appended bytes
unfoldable pub head_at : List ℕ → Result ((ℕ × ℕ × ℕ) × List ℕ) ℕ
head_at bytes = do
  len ← number_at (length bytes) bytes
  fields ← number_at (length bytes) len.1
  append ← number_at (length bytes) fields.1
  Ok ((len.0, fields.0, append.0), append.1)

-- `count` bytes at a place are one to four, behind a field that ends at `from`, and within the old length
abbrev pub keeps_rules : ℕ → ℕ → ℕ → ℕ → Bool
keeps_rules from len at count = nat_le 1 count && nat_le count 4 && nat_le from at && nat_le (at + count) len

-- the bytes that were at a place, and those that are put there
unfoldable pub exchange_at : ℕ → ℕ → ℕ → List ℕ → Result (Exchange × List ℕ) ℕ
exchange_at left at count bytes = do
  was ← bytes_at left count bytes
  put ← bytes_at left count was.1
  Ok (record { at = at; was = was.0; put = put.0 }, put.1)

unfoldable pub field_at : ℕ → ℕ → List ℕ → Result (Exchange × List ℕ) ℕ
field_at from len bytes = do
  at ← number_at (length bytes) bytes
  count ← byte_at (length bytes) at.1
  if keeps_rules from len at.0 count.0 then exchange_at (length bytes) at.0 count.0 count.1 else Err (length bytes)

-- so many fields, the first behind one that ends at `from`
unfoldable pub fields_at : ℕ → ℕ → ℕ → List ℕ → Result (List Exchange × List ℕ) ℕ
fields_at from len zero bytes = Ok ([], bytes)
fields_at from len (suc n) bytes = do
  first ← field_at from len bytes
  others ← fields_at (first.0.at + length first.0.was) len n first.1
  Ok (first.0 ∷ others.0, others.1)

-- an entry: its head, its fields and its appended bytes
unfoldable pub entry_at : List ℕ → Result (Packed × List ℕ) ℕ
entry_at bytes = do
  head ← head_at bytes
  fields ← fields_at 0 head.0.0 head.0.1 head.1
  append ← bytes_at (length fields.1) head.0.2 fields.1
  Ok (record { len = head.0.0; fields = fields.0; append = append.0 }, append.1)

unfoldable pub entries_at : ℕ → List ℕ → Result (List Packed × List ℕ) ℕ
entries_at zero bytes = Ok ([], bytes)
entries_at (suc n) bytes = do
  first ← entry_at bytes
  others ← entries_at n first.1
  Ok (first.0 ∷ others.0, others.1)

-- the whole file; bytes behind the last entry are a bad piece
unfoldable pub patch_of : List ℕ → Result (List Packed) ℕ
patch_of bytes = do
  rest ← mark_at bytes
  count ← number_at (length rest) rest
  entries ← entries_at count.0 count.1
  if length entries.1 == 0 then Ok entries.0 else Err (length entries.1)
