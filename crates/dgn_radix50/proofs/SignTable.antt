-- The table of signs as a whole: each of the forty codes is found again from its sign, so no two signs
-- are the same, and a byte has a code exactly where it is a sign.
use Rattle.std.proofs.Common.{◌≡◌, ℕ, ◌<◌, Bool, eqb, length, get_or, Some, None, refl, sym, ◌∙◌, arith}
use Rattle.std.proofs.lemmas.Bool.{eqb-true}
use Rattle.std.proofs.lemmas.Bool.Decides.{nat_tests}
use Rattle.std.proofs.lemmas.List.{get_or_default}
use Rattle.std.proofs.lemmas.List.FromFn.{length-range_with_len, get_or-range_with_len}
use Rattle.std.proofs.lemmas.List.Quantifiers.{position-Some}
use Rattle.std.proofs.lemmas.List.Sums.{AllPass-from_list_all}
use Rattle.std.proofs.lemmas.Option.{none-some}
use Rattle.std.specs.List.{position_or_len, range_with_len}
use Rattle.dgn_radix50.specs.Signs.{signs, IsSign, sign_of, code_of}

-- the first place of a byte in the table, or 40
place : ℕ → ℕ
place s = position_or_len (λ t. eqb t s) signs

length-signs : length signs ≡ 40
unfolding signs
length-signs = refl

-- each of the forty codes is the first place of its sign
place-sign_of : (c : ℕ) → c < 40 → place (sign_of c) ≡ c
unfolding place signs
place-sign_of c below =
    let found : ℕ → Bool = λ c. eqb (position_or_len (λ t. eqb t (sign_of c)) signs) c in
    let each = AllPass-from_list_all found (range_with_len 0 40) refl in
    let at : get_or (range_with_len 0 40) c 0 ≡ c = get_or-range_with_len 0 40 c 0 below ∙ omega arith in
    eqb-true _ c (rw at at (each c 0 (omega (arith, length-range_with_len 0 40))))

pub code_of-sign_of : (c : ℕ) → c < 40 → code_of (sign_of c) ≡ Some c
unfolding place
code_of-sign_of c below =
    let first : position_or_len (λ t. eqb t (sign_of c)) signs ≡ c = place-sign_of c below in
    rw (first, length-signs) (grind (arith, nat_tests))

-- the code of a byte is below 40, and the byte is the sign of it
pub sign_of-code_of : (s c : ℕ) → code_of s ≡ Some c → (c < 40) × (sign_of c ≡ s)
sign_of-code_of s c is =
    let found = position-Some (λ t. eqb t s) signs c 0 is in
    (omega (arith, found.0, length-signs), eqb-true _ s found.1)

-- a byte that has a code is a sign
pub IsSign-Some : (s c : ℕ) → code_of s ≡ Some c → IsSign s
IsSign-Some s c is =
    let found = position-Some (λ t. eqb t s) signs c s is in
    (c, found.0, eqb-true _ s found.1)

-- a byte that has no code is no sign
pub IsSign-None : (s : ℕ) → code_of s ≡ None → IsSign s → ⊥
IsSign-None s none sign =
    let below : sign.0 < 40 = omega (arith, sign.1, length-signs) in
    let at : sign_of sign.0 ≡ s = get_or_default signs sign.0 0 s sign.1 ∙ sign.2 in
    none-some sign.0 (sym none ∙ rw at at (code_of-sign_of sign.0 below))
