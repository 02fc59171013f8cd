-- The value of digits, one after the other.
use Rattle.std.proofs.Common.{◌≡◌, ℕ, ◌+◌, ◌-◌, ◌*◌, ◌<◌, ◌≤◌, true, List, [], ◌∷◌, length, get_or, drop, ap, arith}
use Rattle.std.specs.Char.{is_ascii_digit, digit_value}
use Rattle.std.specs.Str.Parse.{digits_value_after}
use Rattle.std.proofs.lemmas.Bool.Decides.{nat_tests}
use Rattle.std.proofs.lemmas.List.{drop_more}

-- a digit is a byte from 48 to 57, and worth what is above 48
pub digit_is : (c : ℕ) → is_ascii_digit c ≡ true → (48 ≤ c) × (c ≤ 57) × (digit_value c ≡ c - 48)
digit_is c is = grind (arith, nat_tests)

-- the value of what is left behind a value goes on with the next
pub value_next : (word : List ℕ) (i value : ℕ) → i < length word
    → digits_value_after 10 value (drop i word) ≡ digits_value_after 10 (value * 10 + digit_value (get_or word i 0)) (drop (i + 1) word)
value_next word i value within = ap (digits_value_after 10 value) (drop_more word i 0 within)

-- more digits are worth no less
pub grows : (n : ℕ) (ds : List ℕ) → n ≤ digits_value_after 10 n ds
grows n [] = omega arith
grows n (d ∷ ds) = omega (arith, grows (n * 10 + digit_value d) ds)
