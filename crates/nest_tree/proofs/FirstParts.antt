-- The first ones of the entries of elements, of which the first so many are the same.
use Rattle.std.proofs.Common.{◌≡◌, ℕ, zero, suc, ◌-◌, min, List, ◌∷◌, ◌++◌, take, replicate, refl, ap, ◌∙◌, arith}

pub first_entries : {A : Type 0} (x : A) (plain count left : ℕ) (rest : List A) → left ≡ min plain count → replicate left x
    ++ take (count - left) rest ≡ take count (replicate plain x ++ rest)
first_entries x zero count left rest is =
    let none : left ≡ 0 = omega arith in
    let all : count - 0 ≡ count = omega arith in
    ap (λ (k : ℕ). replicate k x ++ take (count - k) rest) none ∙ ap (λ (k : ℕ). take k rest) all
first_entries x (suc plain) zero left rest is =
    let none : left ≡ 0 = omega arith in
    let no_more : 0 - 0 ≡ 0 = omega arith in
    ap (λ (k : ℕ). replicate k x ++ take (0 - k) rest) none ∙ ap (λ (k : ℕ). take k rest) no_more
first_entries x (suc plain) (suc count) left rest is =
    let more : left ≡ suc (min plain count) = omega arith in
    let same : suc count - suc (min plain count) ≡ count - min plain count = omega arith in
    ap (λ (k : ℕ). replicate k x ++ take (suc count - k) rest) more
    ∙ ap (λ (k : ℕ). x ∷ (replicate (min plain count) x ++ take k rest)) same
    ∙ ap (λ (l : List _). x ∷ l) (first_entries x plain count (min plain count) rest refl)
