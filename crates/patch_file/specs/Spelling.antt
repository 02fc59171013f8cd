-- Patch entries, and the one spelling of each list of them. It is this project's own format: numbers have four bytes,
-- the low one first.
use Rattle.std.specs.Prelude.{ℕ, ◌<◌, ◌^◌, List, ◌∷◌, ◌++◌, length, codes}
use Rattle.std.specs.List.{flat_map, AllByRecursion}
use Rattle.std.specs.Int.{w32, to_le_bytes}
use Rattle.patch_file.specs.Exchanges.{Exchange, AllKeepRules}

-- what one edit did to a body: the length before it, the bytes exchanged, in the order of their places, and the
-- bytes appended
pub record Packed : Type 0 where
  pub len : ℕ
  pub fields : List Exchange
  pub append : List ℕ

-- the eight bytes that a patch file begins with
abbrev pub mark : List ℕ
mark = codes "DGNPAT01"

-- a number
unfoldable pub number : ℕ → List ℕ
number n = to_le_bytes w32 n

-- the place, how many bytes are exchanged, the bytes that were, and the bytes that are put
abbrev pub field_spelling : Exchange → List ℕ
field_spelling f = number f.at ++ (length f.was ∷ (f.was ++ f.put))

-- the old length, the number of fields and that of appended bytes
abbrev pub head_spelling : ℕ → ℕ → ℕ → List ℕ
head_spelling len fields append = number len ++ (number fields ++ number append)

abbrev pub entry_spelling : Packed → List ℕ
entry_spelling e =
    head_spelling e.len (length e.fields) (length e.append) ++ (flat_map field_spelling e.fields ++ e.append)

-- the file of a list of entries: the mark, how many there are, and each of them
abbrev pub patch_spelling : List Packed → List ℕ
patch_spelling es = mark ++ (number (length es) ++ flat_map entry_spelling es)

-- an entry has a spelling: its fields keep the rules, and its numbers have four bytes
pub record IsEntry (e : Packed) : Type 0 where
  pub len : e.len < 2 ^ 32
  pub append : length e.append < 2 ^ 32
  pub rules : AllKeepRules 0 e.len e.fields

-- a list of entries has a spelling
pub record AreEntries (es : List Packed) : Type 0 where
  pub count : length es < 2 ^ 32
  pub each : AllByRecursion IsEntry es
