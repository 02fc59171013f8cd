-- A word that is cut at its commas, and the point that its numbers give.
use Rattle.std.proofs.Common.{◌≡◌, ℕ, ◌<◌, List, [], ◌∷◌, Bool, length, None, refl, arith, length-take}
use Rattle.std.specs.Prelude.{◌≢◌}
use Rattle.std.specs.List.{slice_split, before_first, after_first, position_or_len}
use Rattle.std.proofs.lemmas.List.Splits.{slice_split_first, length-slice_split}
use Rattle.edit_script.specs.Points.{is_comma, numbers_of, point_with}
use Rattle.edit_script.proofs.TextPieces.{split_whole}

-- where as many bytes stand before the first comma as there are, none is one
pub cut_whole : (p : ℕ → Bool) (xs : List ℕ) → length (before_first p xs) ≡ length xs → slice_split p xs ≡ xs ∷ []
cut_whole p xs h = split_whole p xs (omega (arith, h, length-take (position_or_len p xs) xs))

-- and otherwise one ends the first number
pub cut_found : (p : ℕ → Bool) (xs : List ℕ) → length (before_first p xs) ≢ length xs → slice_split p xs ≡ before_first p xs ∷ slice_split p (after_first p xs)
cut_found p xs h = slice_split_first p xs 0 (omega (arith, h, length-take (position_or_len p xs) xs))

-- three numbers and more before others are no point
more_than_three : (x y z : List ℕ) (others : List (List ℕ)) → 0 < length others → point_with (x ∷ y ∷ z ∷ others) ≡ None
more_than_three x y z [] some = absurd (omega (arith, some))
more_than_three x y z (other ∷ others) some = refl

-- a third comma makes a word no point
pub too_many : (x y z rest : List ℕ) → point_with (x ∷ y ∷ z ∷ numbers_of rest) ≡ None
too_many x y z rest = more_than_three x y z (numbers_of rest) (omega (arith, length-slice_split is_comma rest))
