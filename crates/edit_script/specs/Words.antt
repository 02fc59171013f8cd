-- The words of a line, by the script's grammar: what stands between blanks. A blank is byte 32 alone, so
-- a tab is part of a word.
use Rattle.std.specs.Prelude.{ℕ, ◌==◌, Bool, not, if◌then◌else◌, List, [], ◌∷◌, length, filter, Option, Some, None}
use Rattle.std.specs.List.{slice_split, before_first, after_first}

-- whether a byte is a blank
abbrev pub is_blank : ℕ → Bool
is_blank b = b == 32

-- the words of a line
abbrev pub words_of : List ℕ → List (List ℕ)
words_of line = filter (λ word. not (length word == 0)) (slice_split is_blank line)

-- a line from its first byte on that isn't a blank
abbrev pub from_word : List ℕ → List ℕ
from_word [] = []
from_word (b ∷ bs) = if is_blank b then from_word bs else b ∷ bs

-- the first word of a line
abbrev pub first_word : List ℕ → List ℕ
first_word line = before_first is_blank (from_word line)

-- what stands behind the first word of a line and the one blank that ends it
abbrev pub behind_word : List ℕ → List ℕ
behind_word line = after_first is_blank (from_word line)

-- a value before others, where it and they are there
abbrev pub before_all : {X : Type 0} → Option X → Option (List X) → Option (List X)
before_all None more = None
before_all (Some x) None = None
before_all (Some x) (Some more) = Some (x ∷ more)

-- what these words name, where each names a value
abbrev pub each_named : {X : Type 0} → (List ℕ → Option X) → List (List ℕ) → Option (List X)
each_named name [] = Some []
each_named name (word ∷ words) = before_all (name word) (each_named name words)
