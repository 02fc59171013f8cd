-- Where a patch file breaks off, by its pieces alone: the mark, the number of entries, and of each entry its head, its fields and its
-- appended bytes. Those before a bad piece stand, and that one is cut off or breaks its rule; what stands behind the last entry is a
-- bad piece, too. `left` is how many bytes there are from where the bad piece begins.
use Rattle.std.specs.Prelude.{ℕ, ◌≡◌, ◌+◌, ◌*◌, ◌<◌, ◌≤◌, ◌^◌, List, [], ◌∷◌, ◌++◌, length}
use Rattle.std.specs.List.{flat_map, AllByRecursion}
use Rattle.patch_file.specs.Exchanges.{Exchange, AllKeepRules}
use Rattle.patch_file.specs.Spelling.{Packed, mark, number, field_spelling, head_spelling, entry_spelling, IsEntry}

-- Fields.

-- a field's numbers stand at the front: its place, and how many bytes it exchanges
pub record FieldNumbers (bytes : List ℕ) : Type 0 where
  pub at : ℕ
  pub count : ℕ
  pub rest : List ℕ
  pub parts : bytes ≡ number at ++ (count ∷ rest)
  pub small : at < 2 ^ 32

-- they keep the rules: one to four bytes, behind a field that ends at `from`, within an entry of the old length `len`
pub record FitRules (from len at count : ℕ) : Type 0 where
  pub least : 1 ≤ count
  pub most : count ≤ 4
  pub behind : from ≤ at
  pub within : at + count ≤ len

-- a bad field: its numbers are cut off or break the rules, or its bytes, the old ones and the new ones, are cut off
pub data IsBadField (from len : ℕ) (bytes : List ℕ) : Type 0 where
  NumbersCut : length bytes < 5 → IsBadField from len bytes
  BreaksRules : (n : FieldNumbers bytes) → ¬ FitRules from len n.at n.count → IsBadField from len bytes
  BytesCut : (n : FieldNumbers bytes) → length n.rest < 2 * n.count → IsBadField from len bytes

-- fields that keep the rules stand at the front
pub record FieldsStand (len : ℕ) (bytes : List ℕ) : Type 0 where
  pub fields : List Exchange
  pub rest : List ℕ
  pub parts : bytes ≡ flat_map field_spelling fields ++ rest
  pub rules : AllKeepRules 0 len fields

-- where the last of fields ends, or `from` where there is none
abbrev pub end_after : ℕ → List Exchange → ℕ
end_after from [] = from
end_after from (f ∷ fs) = end_after (f.at + length f.was) fs

-- Entries.

-- an entry's head stands at the front: its old length, its number of fields and that of its appended bytes
pub record HeadStands (bytes : List ℕ) : Type 0 where
  pub len : ℕ
  pub fields : ℕ
  pub append : ℕ
  pub rest : List ℕ
  pub parts : bytes ≡ head_spelling len fields append ++ rest
  pub len_small : len < 2 ^ 32
  pub fields_small : fields < 2 ^ 32
  pub append_small : append < 2 ^ 32

-- a bad entry: its head is cut off, or behind its head some of its fields stand and the next one is bad, or all of them stand and
-- its appended bytes are cut off
pub data IsBadEntry (bytes : List ℕ) (left : ℕ) : Type 0 where
  HeadCut : length bytes < 12 → left ≡ length bytes → IsBadEntry bytes left
  FieldBad : (h : HeadStands bytes) (f : FieldsStand h.len h.rest) → length f.fields < h.fields → IsBadField (end_after 0 f.fields) h.len f.rest
      → left ≡ length f.rest → IsBadEntry bytes left
  AppendCut : (h : HeadStands bytes) (f : FieldsStand h.len h.rest) → length f.fields ≡ h.fields → length f.rest < h.append → left ≡ length f.rest
      → IsBadEntry bytes left

-- entries stand at the front
pub record EntriesStand (bytes : List ℕ) : Type 0 where
  pub entries : List Packed
  pub rest : List ℕ
  pub parts : bytes ≡ flat_map entry_spelling entries ++ rest
  pub each : AllByRecursion IsEntry entries

-- The file.

-- the mark and the number of entries stand at the front
pub record CountStands (file : List ℕ) : Type 0 where
  pub count : ℕ
  pub rest : List ℕ
  pub parts : file ≡ mark ++ (number count ++ rest)
  pub small : count < 2 ^ 32

-- a bad file: it doesn't begin with the mark, or the number of entries is cut off, or behind it some of the entries stand and the next
-- one is bad, or all of them stand and there are bytes behind them
pub data IsBad (file : List ℕ) (left : ℕ) : Type 0 where
  MarkBad : ((rest : List ℕ) → ¬ (file ≡ mark ++ rest)) → left ≡ length file → IsBad file left
  CountCut : (rest : List ℕ) → file ≡ mark ++ rest → length rest < 4 → left ≡ length rest → IsBad file left
  EntryBad : (c : CountStands file) (e : EntriesStand c.rest) → length e.entries < c.count → IsBadEntry e.rest left → IsBad file left
  BytesBehind : (c : CountStands file) (e : EntriesStand c.rest) → length e.entries ≡ c.count → 0 < length e.rest → left ≡ length e.rest
      → IsBad file left

-- the bad piece of the file begins at this offset
pub record IsBadAt (file : List ℕ) (offset : ℕ) : Type 0 where
  pub left : ℕ
  pub bad : IsBad file left
  pub place : offset + left ≡ length file
