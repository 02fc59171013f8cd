-- What is kept of each element beside its offset, and how a list of it lies in two: a byte of each, and the totals of those
-- alone that count their members.
use Rattle.std.specs.Prelude.{ℕ, ◌+◌, ◌%◌, Bool, IsTrue, IsFalse, if◌then◌else◌, Option, Some, None, List, [], ◌∷◌, get_or, drop}
use Rattle.dgn_layout.specs.Classes.{class_of}
use Rattle.dgn_drawing.specs.Nesting.{is_counted}
use Rattle.dgn_drawing.specs.Spelling.{bit}

-- type and bit C of an element in one byte, and its total, which is 0 where it doesn't count its members
pub record Kind : Type 0 where
  pub byte : ℕ
  pub total : ℕ

-- a list of them, and for how many more there is room
pub record Kinds : Type 0 where
  pub items : List Kind
  pub spare : ℕ

-- whether the type that such a byte says counts its members
abbrev pub has_total : ℕ → Bool
has_total byte = is_counted (class_of (byte % 128))

-- how many of the bytes say such a type
abbrev pub total_count : List ℕ → ℕ
total_count [] = 0
total_count (byte ∷ bytes) = bit 1 (has_total byte) + total_count bytes

-- of each byte and, where its type counts its members, the next of the totals
abbrev pub kinds_by : List ℕ → List ℕ → List Kind
kinds_by [] totals = []
kinds_by (byte ∷ bytes) totals =
    record { byte = byte; total = if has_total byte then get_or totals 0 0 else 0 } ∷ kinds_by bytes (drop (bit 1 (has_total byte)) totals)

-- the totals of those whose type counts its members
abbrev pub totals_kept : List Kind → List ℕ
totals_kept [] = []
totals_kept (kind ∷ kinds) = if has_total kind.byte then kind.total ∷ totals_kept kinds else totals_kept kinds

-- a byte with a total, where there is one
abbrev pub kind_with : ℕ → Option ℕ → Kind
kind_with byte None = record { byte = byte; total = 0 }
kind_with byte (Some total) = record { byte = byte; total = total }

-- there is one where the type counts its members
abbrev pub SaysTotal : ℕ → Option ℕ → Type 0
SaysTotal byte None = IsFalse (has_total byte)
SaysTotal byte (Some total) = IsTrue (has_total byte)
