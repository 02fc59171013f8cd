-- The pieces that lines of a listing are made of.
use Rattle.std.specs.Prelude.{ℕ, zero, suc, ◌+◌, List, [], ◌∷◌, ◌++◌, codes, decimal}
use Rattle.std.specs.List.{flat_map}
pub use Rattle.patch_bytes.specs.Fronts.{Appends, AppendsFrontOf}

-- words of a line stand one blank apart, and each line ends with a line feed
abbrev pub blank : List ℕ
blank = codes " "

abbrev pub line_feed : List ℕ
line_feed = 10 ∷ []

-- a number in plain decimals and the blank behind it
abbrev pub field_text : ℕ → List ℕ
field_text n = decimal n ++ blank

abbrev pub fields_text : List ℕ → List ℕ
fields_text numbers = flat_map field_text numbers

-- the last line of a listing: a word, and how many lines stand before
abbrev pub ending_text : List ℕ → ℕ → List ℕ
ending_text word count = word ++ (blank ++ (decimal count ++ line_feed))

-- the texts of so many numbers, from n on
abbrev pub texts_from : (ℕ → List ℕ) → ℕ → ℕ → List ℕ
texts_from text n zero = []
texts_from text n (suc count) = text n ++ texts_from text (n + 1) count
