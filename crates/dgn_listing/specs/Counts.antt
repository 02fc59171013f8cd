-- How often each number of a list stands there, in the order in which the numbers are first seen, and the
-- lines that say so.
use Rattle.std.specs.Prelude.{ℕ, ◌==◌, not, List, [], ◌∷◌, ◌++◌, map, filter, decimal}
use Rattle.std.specs.List.{flat_map, count_by}
use Rattle.dgn_listing.specs.Lines.{line_feed, field_text}

-- the distinct numbers of a list, in the order in which each is first seen
abbrev pub first_seen : List ℕ → List ℕ
first_seen [] = []
first_seen (k ∷ ks) = k ∷ filter (λ other. not (k == other)) (first_seen ks)

-- how often a number stands in a list
abbrev pub times : ℕ → List ℕ → ℕ
times k ks = count_by (λ other. k == other) ks

-- the distinct numbers of a list, each with how often it stands there
abbrev pub counts : List ℕ → List (ℕ × ℕ)
counts ks = map (λ k. (k, times k ks)) (first_seen ks)

-- a line: a word and a blank, a number, and how often it stands there
abbrev pub count_line : List ℕ → ℕ × ℕ → List ℕ
count_line word count = word ++ (field_text count.0 ++ (decimal count.1 ++ line_feed))

abbrev pub count_lines : List ℕ → List (ℕ × ℕ) → List ℕ
count_lines word each = flat_map (count_line word) each
