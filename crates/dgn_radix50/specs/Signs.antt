-- The signs of radix-50, in which the words of a cell's name are written. A word below 64000 is three
-- codes from 0 to 39, the first one times 1600 and the second one times 40. Each code is the place of
-- a sign in one table of forty.
use Rattle.std.specs.Prelude.{ℕ, ◌+◌, ◌*◌, ◌/◌, ◌%◌, ◌==◌, List, [], ◌∷◌, Option, Some, None, slice_index, position, Contains, codes}

-- the forty signs in the order of their codes: the blank, A to Z, three marks, 0 to 9
unfoldable pub signs : List ℕ
signs = codes " ABCDEFGHIJKLMNOPQRSTUVWXYZ$.%0123456789"

-- a byte is one of the forty signs
abbrev pub IsSign : ℕ → Type 0
IsSign s = Contains signs s

-- the sign of a code
abbrev pub sign_of : ℕ → ℕ
sign_of code = slice_index signs code

-- the code of a sign, which is its place in the table; none for a byte that is no sign
abbrev pub code_of : ℕ → Option ℕ
code_of s = position (λ t. t == s) signs

-- the three signs of a word
abbrev pub signs_of : ℕ → List ℕ
signs_of w = sign_of (w / 1600) ∷ sign_of (w / 40 % 40) ∷ sign_of (w % 40) ∷ []

-- the word of three codes
abbrev pub word_of_codes : Option ℕ → Option ℕ → Option ℕ → Option ℕ
word_of_codes (Some a) (Some b) (Some c) = Some (1600 * a + 40 * b + c)
word_of_codes _ _ _ = None

-- the word of three bytes; none where one of them is no sign
abbrev pub word_of : List ℕ → Option ℕ
word_of s = word_of_codes (code_of (slice_index s 0)) (code_of (slice_index s 1)) (code_of (slice_index s 2))
