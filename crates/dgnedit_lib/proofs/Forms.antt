-- What holds of each form that words may have holds of what the words ask for.
use Rattle.std.proofs.Common.{ℕ, nat_le, Bool, true, false, ◌&&◌, not, if◌then◌else◌, List, codes, Option, Some, None}
use Rattle.std.specs.Str.{bytes_eq}
use Rattle.edit_script.specs.Numbers.{number_within}
use Rattle.dgn_tool.specs.Request.{Request, Edit, Gen, Pack, Apply, four_words, edit_of, pack_of, gen_of, generation_of, apply_of}

-- whichever of two it is
pub either : {A : Type 0} (P : A → Type 0) (b : Bool) (x y : A) → P x → P y → P (if b then x else y)
either P true x y is_x is_y = is_x
either P false x y is_x is_y = is_y

generation : (P : Option Request → Type 0) (seed count : Option ℕ) (output : List ℕ) → P None → ((s c : ℕ) → P (Some (Gen s c output)))
    → P (generation_of seed count output)
generation P None count output none gen = none
generation P (Some seed) None output none gen = none
generation P (Some seed) (Some count) output none gen =
    either P (nat_le 1 count && nat_le count 200000) (Some (Gen seed count output)) None (gen seed count) none

-- what four words ask for that begin otherwise
abbrev apply_or_gen : List ℕ → List ℕ → List ℕ → List ℕ → Option Request
apply_or_gen a b c d = if bytes_eq a (codes "apply") then apply_of b c d else gen_of a b c d

abbrev other_than_edit : List ℕ → List ℕ → List ℕ → List ℕ → Option Request
other_than_edit a b c d = if bytes_eq a (codes "pack") then pack_of b c d else apply_or_gen a b c d

-- of four words
pub of_four : (P : Option Request → Type 0) (a b c d : List ℕ) → P None → P (Some (Edit b c d)) → P (Some (Pack b c d)) → P (Some (Apply b c d))
    → ((seed count : ℕ) → P (Some (Gen seed count d))) → P (four_words a b c d)
of_four P a b c d none edit pack apply gen =
    either P (bytes_eq a (codes "edit")) (edit_of a b c d) (other_than_edit a b c d)
    (either P (bytes_eq a (codes "edit") && not (bytes_eq b d)) (Some (Edit b c d)) None edit none)
    (either P (bytes_eq a (codes "pack")) (pack_of b c d) (apply_or_gen a b c d)
    (either P (bytes_eq b d) None (Some (Pack b c d)) none pack)
    (either P (bytes_eq a (codes "apply")) (apply_of b c d) (gen_of a b c d)
    (either P (bytes_eq b d) None (Some (Apply b c d)) none apply)
    (either P (bytes_eq a (codes "gen")) (generation_of (number_within 4294967295 b) (number_within 4294967295 c) d) None
    (generation P (number_within 4294967295 b) (number_within 4294967295 c) d none gen) none)))
