-- A design: the dimension, body and tail of a file that opens, the offsets of its elements, and a byte and the total of
-- each. And when what is kept can follow a body that has grown, or one that has lost its last elements.
use Rattle.std.specs.Prelude.{ℕ, ◌≡◌, ◌+◌, ◌-◌, ◌≤◌, min, List, [], ◌∷◌, ◌++◌, length, take, map, vec_len, vec_capacity, IsTrue, if◌then◌else◌}
use Rattle.elem_index.specs.declared.design.Design.{Design}
use Rattle.elem_index.specs.Kinds.{Kind}
use Rattle.elem_head.specs.Head.{kind_of, has_bit_c}
use Rattle.dgn_layout.specs.Classes.{class_of}
use Rattle.dgn_drawing.specs.Element.{Element}
use Rattle.dgn_drawing.specs.Spelling.{bit}
use Rattle.dgn_drawing.specs.declared.row.Row.{Row}
use Rattle.dgn_drawing.specs.Rows.{row_of, row_at}
use Rattle.dgn_drawing.specs.Nesting.{is_counted}
use Rattle.dgn_drawing.specs.Opening.{Opens, elements_of}
use Rattle.elem_index.specs.Offsets.{offsets_of}
use Rattle.dgn_drawing.specs.declared.limits.TheConstants.{MOST_DESIGN}

-- the offsets that are kept
abbrev pub kept_of : Design → List ℕ
kept_of d = d.kept.items

-- the bytes that are kept, and totals
abbrev pub kinds_of : Design → List Kind
kinds_of d = d.kinds.items

-- spare: of how many more elements there is room for both
abbrev pub spare_of : Design → ℕ
spare_of d = min (vec_capacity d.kept - vec_len d.kept) d.kinds.spare

-- type and bit C of a row in one byte: the type, and 128 more where it has bit C
abbrev pub kind_byte : Row → ℕ
kind_byte row = row.kind + bit 128 row.cbit

-- that byte of the element that bytes begin with
abbrev pub kind_byte_at : List ℕ → ℕ
kind_byte_at b = kind_of b + bit 128 (has_bit_c b)

-- that byte of each element
abbrev pub kind_bytes : List Element → List ℕ
kind_bytes es = map kind_byte (map row_of es)

-- that byte of a row and its total
abbrev pub kind_of_row : Row → Kind
kind_of_row row = record { byte = kind_byte row; total = row.total }

-- both of the element that bytes begin with
abbrev pub kind_at : List ℕ → Kind
kind_at b = kind_of_row (row_at b)

-- both of each element
abbrev pub kinds_in : List Element → List Kind
kinds_in es = map kind_of_row (map row_of es)

-- an element counts its members
abbrev pub IsCounted : Element → Type 0
IsCounted e = IsTrue (is_counted (class_of e.kind))

-- the total of each row that counts its members
abbrev pub totals_in : List Row → List ℕ
totals_in [] = []
totals_in (r ∷ rs) = if is_counted (class_of r.kind) then r.total ∷ totals_in rs else totals_in rs

-- the total of each element that counts its members
abbrev pub totals_of : List Element → List ℕ
totals_of es = totals_in (map row_of es)

-- the elements of the body
abbrev pub elements : Design → List Element
elements d = elements_of d.dim d.body.items

-- body and tail are those of a file of at most MOST_DESIGN bytes that opens, in the design's dimension
pub record IsOpen (d : Design) : Type 0 where
  pub few : length d.body.items + length d.tail.items ≤ MOST_DESIGN
  pub opens : Opens (d.body.items ++ d.tail.items) d.dim (elements d) d.tail.items

-- and the kept offsets, bytes and totals are those of the elements
pub record IsWhole (d : Design) : Type 0 where
  pub is_open : IsOpen d
  pub kept : kept_of d ≡ offsets_of (elements d)
  pub kinds : kinds_of d ≡ kinds_in (elements d)

-- body and tail open, the kept offsets, bytes and totals are those of the first elements, and spare is at least the
-- number of the others
pub record HasGrown (d : Design) : Type 0 where
  pub is_open : IsOpen d
  pub first : kept_of d ≡ take (length (kept_of d)) (offsets_of (elements d))
  pub kinds : kinds_of d ≡ take (length (kept_of d)) (kinds_in (elements d))
  pub room : length (elements d) ≤ length (kept_of d) + spare_of d

-- body and tail open, there are `count` elements, and their offsets, bytes and totals are the first ones of the kept
pub record HasShrunk (count : ℕ) (d : Design) : Type 0 where
  pub is_open : IsOpen d
  pub many : length (elements d) ≡ count
  pub first : take count (kept_of d) ≡ offsets_of (elements d)
  pub kinds : take count (kinds_of d) ≡ kinds_in (elements d)

-- dimension, body and tail stay, with the room that body and tail have
pub record SameText (old new : Design) : Type 0 where
  pub dim : new.dim ≡ old.dim
  pub body : new.body ≡ old.body
  pub tail : new.tail ≡ old.tail

-- offset, byte and total of one more element are kept, with no less room
pub record IsKeptAlso (old new : Design) (at : ℕ) (kind : Kind) : Type 0 where
  pub kept : kept_of new ≡ kept_of old ++ at ∷ []
  pub kinds : kinds_of new ≡ kinds_of old ++ kind ∷ []
  pub room : vec_capacity old.kept ≤ vec_capacity new.kept
  pub kinds_room : old.kinds.spare ≤ new.kinds.spare + 1
