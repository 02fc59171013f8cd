-- What holds of all revised elements.
use Rattle.std.specs.Prelude.{ℕ, ℤ, ◌≡◌, ◌≤◌, Bool, IsFalse, List, length, map}
use Rattle.dgn_layout.specs.declared.types.Class.{Class}
use Rattle.dgn_layout.specs.Classes.{class_of}
use Rattle.patch_bytes.specs.Puts.{Put, write, Span}
use Rattle.dgn_drawing.specs.Element.{Element}
use Rattle.dgn_drawing.specs.Spelling.{spell, size_of}
use Rattle.dgn_drawing.specs.WellFormed.{IsDimension, IsWellFormed}
use Rattle.dgn_drawing.specs.Rows.{row_of}
use Rattle.dgn_revision.specs.Stretches.{Stretch, stretch_of}
use Rattle.dgn_revision.specs.Revisions.{IsName, AreCharacters, IsVertex}
use Rattle.dgn_revision.specs.Revising.{relevelled, locked, unmarked, renamed, room, retexted, attribute_data_in, longer_text, longer_size}
use Rattle.dgn_revision.specs.Revising.{row_of_points, with_vertex}
use Rattle.dgn_revision.specs.RevisionPuts.{level_fields, level_puts, lock_fields, lock_puts, mark_fields, unmark_puts, name_fields, name_puts}
use Rattle.dgn_revision.specs.RevisionPuts.{text_fields, text_puts, vertex_fields, vertex_puts}

-- what is put into an element to revise it makes the bytes of the revised one; it is laid over these fields, which rise
-- within the element; and the revised one is well formed, as large, and nests as it did
pub record IsRevised (dim : ℕ) (e new : Element) (puts : List Put) (fields : List Stretch) : Type 0 where
  pub spelled : spell new ≡ write (spell e) puts
  pub rises : Span 0 puts (size_of e)
  pub over : map stretch_of puts ≡ fields
  pub good : IsWellFormed dim new
  pub row : row_of new ≡ row_of e

-- another level of an element that isn't marked deleted. A deleted one of type 127 could spell the mark that ends a
-- file's elements
abbrev pub LevelsAreOneByte : Type 0
LevelsAreOneByte =
    (dim level : ℕ) (e : Element) → level ≤ 63 → IsWellFormed dim e → IsFalse e.deleted
    → IsRevised dim e (relevelled level e) (level_puts level e) level_fields

-- a lock set or cleared. A silent element stays as it is
abbrev pub LocksAreOneByte : Type 0
LocksAreOneByte =
    (dim : ℕ) (lock : Bool) (e : Element) → IsWellFormed dim e
    → IsRevised dim e (locked lock e) (lock_puts lock e.body) (lock_fields e.body)

-- a deletion taken back
abbrev pub UnmarkedIsOneByte : Type 0
UnmarkedIsOneByte = (dim : ℕ) (e : Element) → IsWellFormed dim e → IsRevised dim e (unmarked e) (unmark_puts e) mark_fields

-- another name of a cell
abbrev pub NamesAreTwoWords : Type 0
NamesAreTwoWords =
    (dim : ℕ) (name : List ℕ) (e : Element) → IsName name → IsWellFormed dim e → e.kind ≡ 2
    → IsRevised dim e (renamed name e) (name_puts name) name_fields

-- other characters in the room of a text
abbrev pub TextsKeepTheirRoom : Type 0
TextsKeepTheirRoom =
    (dim : ℕ) (chars : List ℕ) (e : Element) → IsDimension dim → AreCharacters chars → IsWellFormed dim e → class_of e.kind ≡ Class.Words
    → length chars ≤ room dim e → IsRevised dim e (retexted chars e) (text_puts dim chars) (text_fields dim chars)

-- a longer text that is made from a text is a text, as large as its characters and the attribute data need, and the
-- attribute data are those of the other
pub record IsLonger (dim : ℕ) (chars : List ℕ) (e : Element) : Type 0 where
  pub good : IsWellFormed dim (longer_text dim chars e)
  pub class : class_of (longer_text dim chars e).kind ≡ Class.Words
  pub size : size_of (longer_text dim chars e) ≡ longer_size dim (length chars) e
  pub same_data : attribute_data_in (longer_text dim chars e) (longer_text dim chars e).body ≡ attribute_data_in e e.body

abbrev pub LongerTextsAreTexts : Type 0
LongerTextsAreTexts =
    (dim : ℕ) (chars : List ℕ) (e : Element) → IsDimension dim → AreCharacters chars → IsWellFormed dim e → class_of e.kind ≡ Class.Words
    → longer_size dim (length chars) e ≤ 131074 → IsLonger dim chars e

-- a point put for a vertex
abbrev pub VerticesAreNumbers : Type 0
VerticesAreNumbers =
    (dim index : ℕ) (point : List ℤ) (e : Element) → IsVertex index point dim → IsWellFormed dim e → index ≤ length (row_of_points e.body)
    → IsRevised dim e (with_vertex dim index point e) (vertex_puts dim index point e) (vertex_fields dim index e)
