-- What `refs` says: a line for each element of type 5 on level 9, and how many there are. Such an element may
-- attach a reference file.
use Rattle.std.specs.Prelude.{ℕ, ◌==◌, Bool, ◌&&◌, if◌then◌else◌, List, [], ◌∷◌, ◌++◌, length, codes, decimal, Option, Some, None}
use Rattle.std.specs.List.{count_by}
use Rattle.dgn_drawing.specs.Element.{Element}
use Rattle.dgn_listing.specs.declared.listed.Listed.{Listed}
use Rattle.dgn_listing.specs.Lines.{line_feed, fields_text, texts_from, ending_text}
use Rattle.dgn_listing.specs.TreeTexts.{state_text}
use Rattle.dgn_listing.specs.ElementTexts.{listed_at}

-- whether a type and a level are those of such an element
abbrev pub is_ref : ℕ → ℕ → Bool
is_ref kind level = kind == 5 && level == 9

-- the number and the offset
abbrev pub place_text : Listed → List ℕ
place_text l = fields_text (l.number ∷ l.offset ∷ [])

-- the line: number, offset, size, and whether the element itself is marked deleted
abbrev pub ref_text : Listed → List ℕ
ref_text l = place_text l ++ (decimal l.size ++ (state_text l.deleted ++ line_feed))

-- the line of an element that is said of, where it is such a one
abbrev pub text_of_ref : Option Listed → List ℕ
text_of_ref (Some l) = if is_ref l.kind l.level then ref_text l else []
text_of_ref None = []

abbrev pub ref_line : List Element → ℕ → List ℕ
ref_line es n = text_of_ref (listed_at es n)

-- how many there are
abbrev pub ref_count : List Element → ℕ
ref_count es = count_by (λ e. is_ref e.kind e.level) es

-- the text of `refs`
abbrev pub refs_text : List Element → List ℕ
refs_text es = texts_from (ref_line es) 0 (length es) ++ ending_text (codes "refs") (ref_count es)
