-- What `elements` says: a line for each element, a line for each level and each type with the number of
-- elements that have it, and how many elements there are.
use Rattle.std.specs.Prelude.{ℕ, Bool, if◌then◌else◌, List, [], ◌∷◌, ◌++◌, length, map, codes, slice_get, Option, Some, None, option_map}
use Rattle.dgn_drawing.specs.Element.{Element}
use Rattle.dgn_drawing.specs.Spelling.{size_of}
use Rattle.elem_index.specs.Offsets.{offset_of}
use Rattle.dgn_listing.specs.declared.listed.Listed.{Listed}
use Rattle.dgn_listing.specs.Lines.{line_feed, fields_text, texts_from, ending_text}
use Rattle.dgn_listing.specs.Counts.{counts, count_lines}

-- what is said of an element with a number, which begins at a byte of the file
abbrev pub listed_of : ℕ → ℕ → Element → Listed
listed_of n at e = record { number = n; offset = at; size = size_of e; kind = e.kind; level = e.level; cbit = e.cbit; deleted = e.deleted }

-- what is said of the element that has number n, if one has
abbrev pub listed_at : List Element → ℕ → Option Listed
listed_at es n = option_map (listed_of n (offset_of es n)) (slice_get es n)

-- a sign, or a dash where what it stands for isn't so
abbrev pub sign_text : List ℕ → Bool → List ℕ
sign_text sign set = if set then sign else codes "-"

-- the two signs: bit C, and the element's own deleted bit
abbrev pub signs_text : Listed → List ℕ
signs_text l = sign_text (codes "c") l.cbit ++ sign_text (codes "d") l.deleted

-- the numbers: its own, offset, size, type and level
abbrev pub places_text : Listed → List ℕ
places_text l = fields_text (l.number ∷ l.offset ∷ l.size ∷ l.kind ∷ l.level ∷ [])

-- the line
abbrev pub listed_text : Listed → List ℕ
listed_text l = places_text l ++ (signs_text l ++ line_feed)

abbrev pub text_of_listed : Option Listed → List ℕ
text_of_listed (Some l) = listed_text l
text_of_listed None = []

-- the line of the element that has number n, if one has
abbrev pub element_line : List Element → ℕ → List ℕ
element_line es n = text_of_listed (listed_at es n)

-- the lines of the levels, and those of the types
abbrev pub levels_text : List Element → List ℕ
levels_text es = count_lines (codes "level ") (counts (map (λ e. e.level) es))

abbrev pub types_text : List Element → List ℕ
types_text es = count_lines (codes "type ") (counts (map (λ e. e.kind) es))

abbrev pub totals_text : List Element → List ℕ
totals_text es = levels_text es ++ types_text es

-- the text of `elements`
abbrev pub elements_text : List Element → List ℕ
elements_text es = texts_from (element_line es) 0 (length es) ++ (totals_text es ++ ending_text (codes "elements") (length es))
