-- What is left of a list behind its first part.
use Rattle.std.proofs.Common.{◌≡◌, ℕ, zero, suc, ◌+◌, List, [], ◌∷◌, ◌++◌, length, drop, ap, ◌∙◌, arith}

one_less : {A : Type 0} (l : List A) (n : ℕ) (x : A) (rest : List A) → drop n l ≡ x ∷ rest → drop (n + 1) l ≡ rest
one_less [] zero x rest is = absurd cc
one_less [] (suc n) x rest is = absurd cc
one_less (y ∷ l) zero x rest is = cc
one_less {A} (y ∷ l) (suc n) x rest is =
    let e : suc n + 1 ≡ suc (n + 1) = omega arith in
    ap (λ (k : ℕ). drop k (y ∷ l)) e ∙ one_less l n x rest is

pub drop_front : {A : Type 0} (l front rest : List A) (n at : ℕ) → at ≡ n + length front → drop n l ≡ front ++ rest → drop at l ≡ rest
drop_front {A} l [] rest n at is left = let e : at ≡ n = omega arith in ap (λ (k : ℕ). drop k l) e ∙ left
drop_front l (x ∷ front) rest n at is left = drop_front l front rest (n + 1) at (omega arith) (one_less l n x (front ++ rest) left)
