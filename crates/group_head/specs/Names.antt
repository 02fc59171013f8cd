-- The text of a cell's name, which is two words of radix-50. Each fills five places; a word that has no
-- signs is written as a number.
use Rattle.std.specs.Prelude.{ℕ, ◌/◌, ◌%◌, List, [], ◌∷◌, ◌++◌, nat_lt, if◌then◌else◌, slice_index, codes}
use Rattle.std.specs.Char.{digit_char}
use Rattle.dgn_radix50.specs.Signs.{signs_of}

-- a word as four hexadecimal digits in lower case
abbrev pub hexadecimal : ℕ → List ℕ
hexadecimal w = digit_char (w / 4096) ∷ digit_char (w / 256 % 16) ∷ digit_char (w / 16 % 16) ∷ digit_char (w % 16) ∷ []

-- the five places of a word: its three signs and two blanks, or a backslash and its digits
abbrev pub word_text : ℕ → List ℕ
word_text w = if nat_lt w 64000 then signs_of w ++ codes "  " else codes "\\" ++ hexadecimal w

-- the text of a name of two words
abbrev pub text_of_name : List ℕ → List ℕ
text_of_name n = word_text (slice_index n 0) ++ word_text (slice_index n 1)
