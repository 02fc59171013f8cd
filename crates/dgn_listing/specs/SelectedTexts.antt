-- What `select` says: the number of each tree that the fence chooses, and how many there are.
use Rattle.std.specs.Prelude.{ℕ, List, ◌++◌, length, codes, decimal}
use Rattle.std.specs.List.{flat_map}
use Rattle.dgn_listing.specs.Lines.{line_feed, ending_text}

-- a line with a number alone
abbrev pub number_line : ℕ → List ℕ
number_line n = decimal n ++ line_feed

abbrev pub number_lines : List ℕ → List ℕ
number_lines numbers = flat_map number_line numbers

-- the text of `select`
abbrev pub selected_text : List ℕ → List ℕ
selected_text numbers = number_lines numbers ++ ending_text (codes "selected") (length numbers)
