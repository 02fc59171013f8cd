-- What holds of all well formed records and their spellings.
use Rattle.std.specs.Prelude.{ℤ, ℕ, ◌≡◌, ◌-◌, ◌/◌, IsTrue, IsFalse, false, List, [], ◌∷◌, ◌++◌, drop, length, map}
use Rattle.elem_head.specs.Head.{head_of, symbology_of, properties_of}
use Rattle.range_code.specs.Ranges.{range_of}
use Rattle.body_vertex.specs.Points.{points_of, points_end, IsPathKind}
use Rattle.body_text.specs.Texts.{origin_of, chars_count, chars_of, text_end, node_origin_of, node_end}
use Rattle.group_head.specs.Headers.{total_at, name_at, origin_at, cell_end}
use Rattle.dgn_drawing.specs.Element.{Display, Parts, Line, Points, Text, Node, Cell, Header, Plain, Body, Silent, Shown, Element}
use Rattle.patch_bytes.specs.Puts.{write}
use Rattle.dgn_layout.specs.Classes.{class_of}
use Rattle.dgn_layout.specs.Ends.{body_end}
use Rattle.dgn_layout.specs.Spots.{spots_of, range_spots, has_spots, HoldsPoints, Rise}
use Rattle.range_code.specs.declared.Box3.{Box3}
use Rattle.dgn_drawing.specs.Spelling.{first_byte, second_byte, spell, size_of, rest_start}
use Rattle.dgn_drawing.specs.SpotNumbers.{value_at, sum_at, displaced_put, widened_put}
use Rattle.dgn_drawing.specs.WellFormed.{IsDimension, IsPoint, IsWellFormed, begins_with_mark}
use Rattle.dgn_drawing.specs.Reading.{has_bit_6, group_of, index_of, number_at, end_at, element_at}
use Rattle.dgn_drawing.specs.Rows.{row_at, row_of, total_of}
use Rattle.dgn_words.specs.Numbers.{put}
use Rattle.dgn_drawing.specs.Values.{Displacement, LookChange, IsLook}
use Rattle.dgn_drawing.specs.Changes.{look_changed, recolour, look_bytes, mark, shift, numbers_in, stays_on_plane, widen, freed}
use Rattle.dgn_drawing.specs.NewElements.{NewElement, IsNew, size_made, element_made}
use Rattle.dgn_drawing.specs.Faults.{IsWhole, is_short, breaks_attribute_rule}
use Rattle.dgn_layout.specs.declared.TheConstants.{END_MARK}

-- well formed records of one dimension with one spelling are the same record
abbrev pub OneSpellingOneRecord : Type 0
OneSpellingOneRecord =
    (dim : ℕ) (e f : Element) → IsDimension dim → IsWellFormed dim e → IsWellFormed dim f → spell e ≡ spell f → e ≡ f

-- and where one spelling begins another, nothing is behind it
abbrev pub NoSpellingBeginsAnother : Type 0
NoSpellingBeginsAnother =
    (dim : ℕ) (e f : Element) → IsDimension dim → IsWellFormed dim e → IsWellFormed dim f
    → (more : List ℕ) → spell e ++ more ≡ spell f → more ≡ []

-- the first four bytes hold the record's level, bits, type and number of words behind them
pub record HeadSits (e : Element) : Type 0 where
  pub head : head_of (spell e) ≡ record {
    level = e.level;
    cbit = e.cbit;
    kind = e.kind;
    deleted = e.deleted;
    words = (size_of e - 4) / 2;
  }
  pub bit6 : has_bit_6 (spell e) ≡ e.bit6

-- the display header holds the record's display part
pub record DisplaySits (b : List ℕ) (d : Display) : Type 0 where
  pub range : range_of b ≡ record { lo = d.low; hi = d.high }
  pub group : group_of b ≡ d.group
  pub index : index_of b ≡ d.index
  pub properties : properties_of b ≡ d.properties
  pub symbology : symbology_of b ≡ record { color = d.color; weight = d.weight; style = d.style }

-- a text's fields hold the record's origin and characters
pub record TextSits (dim : ℕ) (b : List ℕ) (origin : List ℤ) (chars : List ℕ) : Type 0 where
  pub origin_is : origin_of dim b ≡ origin
  pub count_is : chars_count dim b ≡ length chars
  pub chars_are : chars_of dim b ≡ chars

-- a text node's fields hold the record's total and origin
pub record NodeSits (dim : ℕ) (b : List ℕ) (total : ℕ) (origin : List ℤ) : Type 0 where
  pub total_is : total_at b ≡ total
  pub origin_is : node_origin_of dim b ≡ origin

-- a cell header's fields hold the record's total, name and origin
pub record CellSits (dim : ℕ) (b : List ℕ) (total : ℕ) (name : List ℕ) (origin : List ℤ) : Type 0 where
  pub total_is : total_at b ≡ total
  pub name_is : name_at b ≡ name
  pub origin_is : origin_at dim b ≡ origin

-- the fields of each type hold the record's parts
abbrev pub PartsSit : ℕ → ℕ → List ℕ → Parts → Type 0
PartsSit dim kind b (Line points) = points_of dim kind b ≡ points
PartsSit dim kind b (Points points) = points_of dim kind b ≡ points
PartsSit dim kind b (Text run origin spare chars) = TextSits dim b origin chars
PartsSit dim kind b (Node total run origin) = NodeSits dim b total origin
PartsSit dim kind b (Cell total name run origin) = CellSits dim b total name origin
PartsSit dim kind b (Header total number) = (total_at b ≡ total) × (number_at b ≡ number)
PartsSit dim kind b Plain = Unit {0}

-- the body stands behind the first four bytes, and its rest behind its end
abbrev pub BodySits : ℕ → Element → Body → Type 0
BodySits dim e (Silent rest) = drop 4 (spell e) ≡ rest
BodySits dim e (Shown display parts rest) =
    DisplaySits (spell e) display × PartsSit dim e.kind (spell e) parts × (drop (rest_start e) (spell e) ≡ rest)

-- every field of a well formed record is what stands at its place in the record's spelling
abbrev pub RecordsSitAtTheirPlaces : Type 0
RecordsSitAtTheirPlaces =
    (dim : ℕ) (e : Element) → IsDimension dim → IsWellFormed dim e → HeadSits e × BodySits dim e e.body

-- the bytes of one whole element without a fault, and without the mark that ends a file's elements,
-- spell the well formed record that is read from them
abbrev pub BytesAreRecords : Type 0
BytesAreRecords =
    (dim : ℕ) (b : List ℕ) → IsDimension dim → IsWhole b
    → IsFalse (is_short dim b) → IsFalse (breaks_attribute_rule dim b) → IsFalse (begins_with_mark b)
    → (spell (element_at dim b) ≡ b) × IsWellFormed dim (element_at dim b)

-- the spelling of a well formed record is the bytes of one whole element without a fault, from which the
-- record and its row are read, and its body ends where the tables say
pub record IsRecordRead (dim : ℕ) (e : Element) : Type 0 where
  pub whole : IsWhole (spell e)
  pub long : IsFalse (is_short dim (spell e))
  pub rule : IsFalse (breaks_attribute_rule dim (spell e))
  pub ends : end_at dim (spell e) ≡ rest_start e
  pub element : element_at dim (spell e) ≡ e
  pub row : row_at (spell e) ≡ row_of e

abbrev pub RecordsAreRead : Type 0
RecordsAreRead = (dim : ℕ) (e : Element) → IsDimension dim → IsWellFormed dim e → IsRecordRead dim e

-- where the body of an element ends, by its type, is where the crates that read the pieces of a body say
pub record EndsAgree (dim : ℕ) (b : List ℕ) : Type 0 where
  pub paths : (kind : ℕ) → IsPathKind kind → body_end dim kind b ≡ points_end dim kind b
  pub texts : body_end dim 17 b ≡ text_end dim b
  pub nodes : body_end dim 7 b ≡ node_end dim
  pub cells : body_end dim 2 b ≡ cell_end dim

abbrev pub BodyEndsAgree : Type 0
BodyEndsAgree = (dim : ℕ) (b : List ℕ) → IsDimension dim → EndsAgree dim b

-- a shown record with another look: its spelling is the record's with the two bytes of the look put at byte
-- 34, and it is well formed, as large, and nests as it did
pub record IsLookPut (dim : ℕ) (change : LookChange) (e : Element) (d : Display) : Type 0 where
  pub spelled : spell (recolour change e) ≡ put (spell e) 34 (look_bytes (look_changed change d))
  pub good : IsWellFormed dim (recolour change e)
  pub size : size_of (recolour change e) ≡ size_of e
  pub row : row_of (recolour change e) ≡ row_of e

abbrev pub LooksAreTwoBytes : Type 0
LooksAreTwoBytes =
    (dim : ℕ) (change : LookChange) (e : Element) (d : Display) (parts : Parts) (rest : List ℕ) → IsLook change
    → IsWellFormed dim e → e.body ≡ Shown d parts rest → IsLookPut dim change e d

-- and a silent record stays
abbrev pub SilentRecordsStay : Type 0
SilentRecordsStay = (change : LookChange) (e : Element) (rest : List ℕ) → e.body ≡ Silent rest → recolour change e ≡ e

-- a record with spots: they hold its numbers, in their order, also where a displacement is added to each; they
-- rise behind the first four bytes and lie in the element
pub record SpotsSit (dim : ℕ) (e : Element) : Type 0 where
  pub numbers : map (value_at (spell e)) (spots_of dim e.kind (spell e)) ≡ numbers_in dim e.body
  pub sums : (by : Displacement) → map (sum_at by (spell e)) (spots_of dim e.kind (spell e)) ≡ numbers_in dim (shift dim by e).body
  pub holds : HoldsPoints dim e.kind (spell e) (size_of e)
  pub rise : Rise 4 (spots_of dim e.kind (spell e)) (size_of e)

abbrev pub SpotsSitAtTheNumbers : Type 0
SpotsSitAtTheNumbers =
    (dim : ℕ) (e : Element) → IsDimension dim → IsWellFormed dim e → IsTrue (has_spots (class_of e.kind)) → SpotsSit dim e

-- a displaced record: its spelling is the record's with the sums put at the spots, and it is well formed, as
-- large, and nests as it did
pub record IsShiftPut (dim : ℕ) (by : Displacement) (e : Element) : Type 0 where
  pub spelled : spell (shift dim by e) ≡ write (spell e) (map (displaced_put by (spell e)) (spots_of dim e.kind (spell e)))
  pub good : IsWellFormed dim (shift dim by e)
  pub row : row_of (shift dim by e) ≡ row_of e

abbrev pub DisplacementsAreSums : Type 0
DisplacementsAreSums =
    (dim : ℕ) (by : Displacement) (e : Element) → IsDimension dim → IsWellFormed dim e
    → IsTrue (has_spots (class_of e.kind)) → IsTrue (stays_on_plane dim by e) → IsShiftPut dim by e

-- a marked record: its spelling is the record's with byte 1 put anew, and it is well formed, as large, and nests
-- as it did. A record of type 127 could spell the mark that ends a file's elements
pub record IsMarkPut (dim : ℕ) (e : Element) : Type 0 where
  pub spelled : spell (mark e) ≡ write (spell e) (record { at = 1; bytes = second_byte (mark e) ∷ [] } ∷ [])
  pub good : IsWellFormed dim (mark e)
  pub row : row_of (mark e) ≡ row_of e

abbrev pub MarksAreOneByte : Type 0
MarksAreOneByte = (dim : ℕ) (e : Element) → IsWellFormed dim e → ¬ (e.kind ≡ END_MARK) → IsMarkPut dim e

-- a shown record with a wider range: its spelling is the record's with the wider numbers put at the range spots,
-- and it is well formed, as large, and nests as it did
pub record IsWidenPut (dim : ℕ) (r : Box3) (e : Element) : Type 0 where
  pub spelled : spell (widen dim r e) ≡ write (spell e) (map (widened_put r (spell e)) (range_spots dim))
  pub good : IsWellFormed dim (widen dim r e)
  pub row : row_of (widen dim r e) ≡ row_of e

abbrev pub WideningsAreWider : Type 0
WideningsAreWider =
    (dim : ℕ) (r : Box3) (e : Element) (d : Display) (parts : Parts) (rest : List ℕ) → IsDimension dim
    → IsPoint 3 r.lo → IsPoint 3 r.hi → IsWellFormed dim e → e.body ≡ Shown d parts rest → IsWidenPut dim r e

-- a freed record: its spelling is the record's with byte 0 put anew, it is well formed and as large, and it nests
-- as one without bit C
pub record IsFreedPut (dim : ℕ) (e : Element) : Type 0 where
  pub spelled : spell (freed e) ≡ write (spell e) (record { at = 0; bytes = first_byte (freed e) ∷ [] } ∷ [])
  pub good : IsWellFormed dim (freed e)
  pub row : row_of (freed e) ≡ record { size = size_of e; kind = e.kind; cbit = false; total = total_of e.body }

abbrev pub FreedIsOneByte : Type 0
FreedIsOneByte = (dim : ℕ) (e : Element) → IsWellFormed dim e → IsFreedPut dim e

-- an element that is made of what its type keeps is well formed, and as large as the tables say
pub record IsMade (new : NewElement) : Type 0 where
  pub good : IsWellFormed new.axes (element_made new)
  pub size : size_of (element_made new) ≡ size_made new.axes new.shape

abbrev pub MadeElementsAreWellFormed : Type 0
MadeElementsAreWellFormed = (new : NewElement) → IsNew new → IsMade new
