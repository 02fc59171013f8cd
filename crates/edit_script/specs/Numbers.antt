-- The numbers of a script: `0`, or digits of which the first isn't 0; and where a sign may stand, a dash
-- before one that isn't `0`.
use Rattle.std.specs.Prelude.{ℕ, ◌==◌, nat_le, Bool, ◌&&◌, ◌||◌, not, if◌then◌else◌, ℤ, pos, neg_ℤ, List, [], ◌∷◌, length, slice_index, Option, Some, None}
use Rattle.std.specs.Option.{option_map}
use Rattle.std.specs.List.{list_all}
use Rattle.std.specs.Char.{is_ascii_digit}
use Rattle.std.specs.Str.Parse.{digits_value}

-- digits, of which the first isn't 0 unless it stands alone
abbrev pub is_number_word : List ℕ → Bool
is_number_word word = not (length word == 0) && (not (slice_index word 0 == 48) || (length word == 1)) && list_all is_ascii_digit word

-- the number that a word spells, where it is one of at most so much
abbrev pub number_within : ℕ → List ℕ → Option ℕ
number_within most word = if is_number_word word && nat_le (digits_value 10 word) most then Some (digits_value 10 word) else None

-- the number below 0 whose digits stand behind a dash
abbrev pub negated : Option ℕ → Option ℤ
negated None = None
negated (Some n) = if n == 0 then None else Some (neg_ℤ (pos n))

-- the number that a word spells, where it is at least minus so much and at most so much
abbrev pub signed_within : ℕ → List ℕ → Option ℤ
signed_within most [] = None
signed_within most (c ∷ cs) = if c == 45 then negated (number_within most cs) else option_map pos (number_within most (c ∷ cs))
