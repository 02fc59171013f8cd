-- A name of a second file is text.
use Rattle.std.proofs.Common.{◌≡◌, ◌∷◌, ℕ, zero, suc, ◌<◌, true, List, [], arith, get_or}
use Rattle.std.specs.Prelude.{nat_le, IsUtf8}
use Rattle.std.specs.List.{list_all}
use Rattle.std.proofs.lemmas.Bool.{and_parts}
use Rattle.std.proofs.lemmas.Bool.Decides.{nat_tests}
use Rattle.std.proofs.lemmas.Str.{IsUtf8-from_ascii}
use Rattle.edit_script.specs.Imports.{is_name_byte}

small : (b : ℕ) → is_name_byte b ≡ true → b < 128
small b is =
    let most : nat_le b 126 ≡ true = (and_parts (nat_le 33 b) (nat_le b 126) is).1 in
    grind (arith, nat_tests)

ascii : (bs : List ℕ) → list_all is_name_byte bs ≡ true → (i : ℕ) → get_or bs i 0 < 128
ascii [] all i = omega arith
ascii (b ∷ bs) all zero = small b (and_parts (is_name_byte b) (list_all is_name_byte bs) all).0
ascii (b ∷ bs) all (suc i) = ascii bs (and_parts (is_name_byte b) (list_all is_name_byte bs) all).1 i

pub name_is_text : (word : List ℕ) → list_all is_name_byte word ≡ true → IsUtf8 word
name_is_text word all = IsUtf8-from_ascii word (ascii word all)
