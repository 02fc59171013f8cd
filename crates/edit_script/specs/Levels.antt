-- The levels that the words of `levels` name, as a mask of which bit L stands for level L.
use Rattle.std.specs.Prelude.{ℕ, zero, suc, ◌+◌, ◌-◌, ◌^◌, ◌==◌, nat_le, Bool, if◌then◌else◌, List, [], ◌∷◌, length, codes, bit_or, Option, Some, None}
use Rattle.std.specs.List.{before_first, after_first}
use Rattle.std.specs.Str.{bytes_eq}
use Rattle.edit_script.specs.Numbers.{number_within}

-- a mask and so many levels more, from one on
abbrev pub with_levels : ℕ → ℕ → ℕ → ℕ
with_levels mask first zero = mask
with_levels mask first (suc count) = with_levels (bit_or mask (2 ^ first)) (first + 1) count

-- a range is `a-b`, or a level, which is its own first and last
abbrev pub is_dash : ℕ → Bool
is_dash b = b == 45

abbrev pub first_part : List ℕ → List ℕ
first_part word = before_first is_dash word

abbrev pub last_part : List ℕ → List ℕ
last_part word = if length (first_part word) == length word then word else after_first is_dash word

-- a mask and the levels of a range, where it is one: both are levels, and the first isn't above the last
abbrev pub with_range : ℕ → Option ℕ → Option ℕ → Option ℕ
with_range mask (Some first) (Some last) = if nat_le first last then Some (with_levels mask first (last + 1 - first)) else None
with_range mask first last = None

abbrev pub with_word : ℕ → List ℕ → Option ℕ
with_word mask word = with_range mask (number_within 63 (first_part word)) (number_within 63 (last_part word))

-- a mask and the levels of all words, where each is a range
abbrev pub with_words : Option ℕ → List (List ℕ) → Option ℕ
with_words None words = None
with_words (Some mask) [] = Some mask
with_words (Some mask) (word ∷ words) = with_words (with_word mask word) words

-- the mask of one word alone
abbrev pub named_by : List ℕ → Option ℕ
named_by word =
    if bytes_eq word (codes "all") then Some 18446744073709551615
    else if bytes_eq word (codes "none") then Some 0
    else with_word 0 word

-- the mask that the words behind `levels` name, of which there has to be one
abbrev pub mask_named : List (List ℕ) → Option ℕ
mask_named [] = None
mask_named (word ∷ []) = named_by word
mask_named (word ∷ words) = with_words (Some 0) (word ∷ words)
