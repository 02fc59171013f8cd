-- What a change of a drawing needs to be carried out, and what an undo looks for.
use Rattle.std.specs.Prelude.{ℕ, ◌≡◌, ◌+◌, ◌<◌, ◌≤◌, List, [], ◌∷◌, ◌++◌, length, drop, map, slice_index, vec_len, vec_capacity}
use Rattle.std.specs.List.{AllByRecursion}
use Rattle.patch_bytes.specs.Puts.{Put, write, Span}
use Rattle.undo_log.specs.declared.entry.Entry.{Entry}
use Rattle.undo_log.specs.LogState.{LogState}
use Rattle.dgn_drawing.specs.declared.row.Row.{Row}
use Rattle.dgn_drawing.specs.Element.{Element}
use Rattle.dgn_drawing.specs.Spelling.{spelling}
use Rattle.dgn_drawing.specs.WellFormed.{IsDimension, IsWellFormed}
use Rattle.dgn_drawing.specs.Rows.{row_of}
use Rattle.dgn_drawing.specs.Nesting.{BeginsFree, itself}
use Rattle.elem_index.specs.declared.design.Design.{Design}
use Rattle.elem_index.specs.Design.{spare_of}
use Rattle.dgn_session.specs.Kept.{rows_of, OpensAt}
use Rattle.dgn_drawing.specs.declared.limits.TheConstants.{MOST_DESIGN}

-- bytes are the spellings of these elements, which are well formed
pub record Spells (dim : ℕ) (es : List Element) (b : List ℕ) : Type 0 where
  pub axes : IsDimension dim
  pub each : AllByRecursion (IsWellFormed dim) es
  pub text : b ≡ spelling es

-- they are those of some elements, of which the first, if there is one, has no bit C
abbrev pub IsSpelling : List ℕ → Type 0
IsSpelling b = (dim : ℕ) × (es : List Element) × Spells dim es b × BeginsFree row_of es

-- bytes begin with elements that have these rows; from place `at` on they spell the others, of which the first, if there
-- is one, has no bit C
pub record Begins (dim : ℕ) (es : List Element) (b : List ℕ) (rows : List Row) (at : ℕ) : Type 0 where
  pub others : List Element
  pub spells : Spells dim others (drop at b)
  pub are : rows ++ map row_of others ≡ map row_of es
  pub free : BeginsFree row_of others

-- so many bytes are a block: some, if there are any, which begin with elements that have these rows, whatever elements
-- the bytes spell
pub record IsBlock (b : List ℕ) (rows : List Row) (size : ℕ) : Type 0 where
  pub begins : (dim : ℕ) (es : List Element) → Spells dim es b → Begins dim es b rows size
  pub some : 0 < length b → 0 < size
  pub within : size ≤ length b
  pub few : length rows ≤ size

-- rows are others and some behind them, of which the first, if there is one, has no bit C
pub record ExtendsRows (old new : List Row) : Type 0 where
  pub more : List Row
  pub are : new ≡ old ++ more
  pub free : BeginsFree itself more

-- rows are others and, behind them, those of so many elements, whatever elements the bytes spell
pub record Grows (b : List ℕ) (old new : List Row) (count : ℕ) : Type 0 where
  pub are : (dim : ℕ) (es : List Element) → Spells dim es b → new ≡ old ++ map row_of es
  pub many : length new ≡ length old + count

-- there is room for one more entry, so many more bytes of the body, and what is kept of so many more elements
pub record HasRoom (bytes rows : ℕ) (d : Design) (l : LogState) : Type 0 where
  pub entry : 1 ≤ l.spare
  pub body : vec_len d.body + bytes ≤ vec_capacity d.body
  pub offsets : rows ≤ spare_of d

-- rows have grown by those of the elements that bytes spell, and there is room for one more entry and for these bytes
pub record IsFollowed (b : List ℕ) (old new : List Row) (d : Design) (l : LogState) : Type 0 where
  pub count : ℕ
  pub grown : Grows b old new count
  pub room : HasRoom (length b) count d l

-- a body into which patches are written, and behind which bytes are put: it opens with the tail; the patches rise in
-- the body; and the rows of its elements are those of the body's and these, the first of which has no bit C
pub record IsChange (dim : ℕ) (tail b : List ℕ) (ps : List Put) (append : List ℕ) (rows : List Row) : Type 0 where
  pub opens : OpensAt dim tail (write b ps ++ append)
  pub rise : Span 0 ps (length b)
  pub behind : rows_of dim (write b ps ++ append) ≡ rows_of dim b ++ rows
  pub free : BeginsFree itself rows

-- patches and bytes to append that may be carried out on a body: the bytes spell elements, and with their rows it is a
-- change
pub record IsSoundChange (dim : ℕ) (tail b : List ℕ) (ps : List Put) (append : List ℕ) : Type 0 where
  pub new : List Element
  pub spells : Spells dim new append
  pub short : length append ≤ MOST_DESIGN
  pub change : IsChange dim tail b ps append (map row_of new)

-- the last of some entries has this length
pub record HasLast (entries : List Entry) (len : ℕ) : Type 0 where
  pub before : List Entry
  pub last : Entry
  pub are : entries ≡ before ++ last ∷ []
  pub long : len ≡ last.len

-- of these places the first `count` are left where those from `len` on are cut off
pub record IsCutAt (places : List ℕ) (len count : ℕ) : Type 0 where
  pub within : count ≤ length places
  pub behind : (k : ℕ) → count ≤ k → k < length places → len ≤ slice_index places k
  pub before : (k : ℕ) → count ≡ k + 1 → slice_index places k < len
