-- The lines of a script, by the first part of the script's grammar. The bytes are cut at each LF, nothing
-- behind the last LF is no line, and one CR at the end of a line is dropped.
use Rattle.std.specs.Prelude.{ℕ, ◌-◌, ◌==◌, if◌then◌else◌, List, [], ◌∷◌, length, slice_index, take, map}
use Rattle.std.specs.List.{slice_split}

-- these pieces without the last, where that is empty
abbrev pub ended : List (List ℕ) → List (List ℕ)
ended [] = []
ended (x ∷ []) = if length x == 0 then [] else x ∷ []
ended (x ∷ y ∷ ys) = x ∷ ended (y ∷ ys)

-- a line without one CR at its end
abbrev pub without_return : List ℕ → List ℕ
without_return line = if slice_index line (length line - 1) == 13 then take (length line - 1) line else line

-- the lines of a script
abbrev pub lines_of : List ℕ → List (List ℕ)
lines_of text = map without_return (ended (slice_split (λ b. b == 10) text))
