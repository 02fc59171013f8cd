-- Putting the numbers of a range, or so many same values, last, one by one: what is left to put keeps the whole.
use Rattle.std.proofs.Common.{◌≡◌, ℕ, suc, ◌+◌, List, [], ◌∷◌, ◌++◌, length, replicate, sym, ap, ◌∙◌}
use Rattle.std.specs.List.{range_with_len}
use Rattle.std.proofs.lemmas.List.{append_assoc, append-nil, nil_from_length, replicate-append-replicate}

-- one more is put, of what is left
put_one : {A : Type 0} (xs ys whole left rest : List A) (x : A) → xs ++ left ≡ whole → left ≡ x ∷ rest → ys ≡ xs ++ x ∷ [] → ys ++ rest ≡ whole
put_one xs ys whole left rest x are first more =
    ap (λ l. l ++ rest) more ∙ append_assoc xs (x ∷ []) rest ∙ ap (λ l. xs ++ l) (sym first) ∙ are

pub put_number : (xs ys whole : List ℕ) (n k m : ℕ) → k ≡ suc m → xs ++ range_with_len n k ≡ whole → ys ≡ xs ++ n ∷ [] → ys ++ range_with_len (n + 1) m ≡ whole
put_number xs ys whole n k m one are more = put_one xs ys whole (range_with_len n k) (range_with_len (n + 1) m) n are (ap (range_with_len n) one) more

pub put_same : {A : Type 0} (xs ys whole : List A) (x : A) (k m : ℕ) → k ≡ suc m → xs ++ replicate k x ≡ whole → ys ≡ xs ++ x ∷ [] → ys ++ replicate m x ≡ whole
put_same xs ys whole x k m one are more = put_one xs ys whole (replicate k x) (replicate m x) x are (ap (λ n. replicate n x) one) more

-- so many same values, and no others, are behind so many of them
pub more_same : {A : Type 0} (x : A) (n m : ℕ) (rest all : List A) → length rest ≡ 0 → all ≡ replicate n x ++ rest → replicate (n + m) x ++ rest ≡ all
    ++ replicate m x
more_same x n m rest all none are =
    let empty = nil_from_length rest none in
    ap (λ l. replicate (n + m) x ++ l) empty ∙ append-nil (replicate (n + m) x) ∙ sym (replicate-append-replicate n m x)
    ∙ ap (λ l. l ++ replicate m x) (sym (are ∙ ap (λ l. replicate n x ++ l) empty ∙ append-nil (replicate n x)))
