-- The list of broken numbers where elements are added behind the others, or taken away from there.
use Rattle.std.proofs.Common.{◌≡◌, ℕ, zero, suc, ◌+◌, ◌≤◌, ◌<◌, List, [], ◌∷◌, length, take, get_or, refl, sym, ap, ◌∙◌, arith, true, false, Bool, inl, inr}
use Rattle.std.specs.Prelude.{nat_lt}
use Rattle.std.specs.List.Sorted.{IsPartitionPoint}
use Rattle.std.proofs.lemmas.Bool.{cases_Bool, cond-true, cond-false, lt-ltb, le-ltb}
use Rattle.nest_tree.specs.Passing.{passing, below}

-- tests that agree pass the same numbers
pub passing_same : (test other : ℕ → Bool) (n count : ℕ) → ((k : ℕ) → n ≤ k → k < n + count → test k ≡ other k) → passing test n count ≡ passing other n count
passing_same test other n zero same = refl
passing_same test other n (suc count) same =
    let here : test n ≡ other n = same n (omega arith) (omega arith) in
    let rest : passing test (n + 1) count ≡ passing other (n + 1) count =
    passing_same test other (n + 1) count (λ k from before. same k (omega arith) (omega arith)) in
    elim (cases_Bool (test n)) [
      | inl passes ↦
          cond-true (test n) (n ∷ passing test (n + 1) count) (passing test (n + 1) count) passes ∙ ap (λ (l : List ℕ). n ∷ l) rest
          ∙ sym (cond-true (other n) (n ∷ passing other (n + 1) count) (passing other (n + 1) count) (sym here ∙ passes))
      | inr fails ↦
          cond-false (test n) (n ∷ passing test (n + 1) count) (passing test (n + 1) count) fails ∙ rest
          ∙ sym (cond-false (other n) (n ∷ passing other (n + 1) count) (passing other (n + 1) count) (sym here ∙ fails))
    ]

module _ (test : ℕ → Bool) where
  -- none of the numbers from one on is below it
  below_none : (n from count : ℕ) → n ≤ from → below n (passing test from count) ≡ []
  below_none n from zero late = refl
  below_none n from (suc count) late = elim (cases_Bool (test from)) [
    | inl passes ↦
        ap (below n) (cond-true (test from) (from ∷ passing test (from + 1) count) (passing test (from + 1) count) passes)
        ∙ cond-false (nat_lt from n) (from ∷ below n (passing test (from + 1) count)) [] (le-ltb from n late)
    | inr fails ↦
        ap (below n) (cond-false (test from) (from ∷ passing test (from + 1) count) (passing test (from + 1) count) fails)
        ∙ below_none n (from + 1) count (omega arith)
  ]

  -- those below a number are those of the first ones that pass
  pub below_first : (from few more n : ℕ) → n ≡ from + few → below n (passing test from (few + more)) ≡ passing test from few
  below_first from zero more n is = ap (λ (k : ℕ). below n (passing test from k)) {x = 0 + more} {y = more} (omega arith) ∙ below_none n from more (omega arith)
  below_first from (suc few) more n is =
      let long : suc few + more ≡ suc (few + more) = omega arith in
      let rest : below n (passing test (from + 1) (few + more)) ≡ passing test (from + 1) few = below_first (from + 1) few more n (omega arith) in
      ap (λ (k : ℕ). below n (passing test from k)) long
      ∙ elim (cases_Bool (test from)) [
        | inl passes ↦
            ap (below n) (cond-true (test from) (from ∷ passing test (from + 1) (few + more)) (passing test (from + 1) (few + more)) passes)
            ∙ cond-true (nat_lt from n) (from ∷ below n (passing test (from + 1) (few + more))) [] (lt-ltb from n (omega arith))
            ∙ ap (λ (l : List ℕ). from ∷ l) rest
            ∙ sym (cond-true (test from) (from ∷ passing test (from + 1) few) (passing test (from + 1) few) passes)
        | inr fails ↦
            ap (below n) (cond-false (test from) (from ∷ passing test (from + 1) (few + more)) (passing test (from + 1) (few + more)) fails) ∙ rest
            ∙ sym (cond-false (test from) (from ∷ passing test (from + 1) few) (passing test (from + 1) few) fails)
      ]

  -- all numbers before an end are below any number from it on
  pub below_all : (from count n : ℕ) → from + count ≤ n → below n (passing test from count) ≡ passing test from count
  below_all from zero n early = refl
  below_all from (suc count) n early =
      let rest : below n (passing test (from + 1) count) ≡ passing test (from + 1) count = below_all (from + 1) count n (omega arith) in
      elim (cases_Bool (test from)) [
        | inl passes ↦
            ap (below n) (cond-true (test from) (from ∷ passing test (from + 1) count) (passing test (from + 1) count) passes)
            ∙ cond-true (nat_lt from n) (from ∷ below n (passing test (from + 1) count)) [] (lt-ltb from n (omega arith))
            ∙ ap (λ (l : List ℕ). from ∷ l) rest
            ∙ sym (cond-true (test from) (from ∷ passing test (from + 1) count) (passing test (from + 1) count) passes)
        | inr fails ↦
            ap (below n) (cond-false (test from) (from ∷ passing test (from + 1) count) (passing test (from + 1) count) fails) ∙ rest
            ∙ sym (cond-false (test from) (from ∷ passing test (from + 1) count) (passing test (from + 1) count) fails)
      ]

-- where a list is cut at the place behind those below a number, those are left
cut_before : (n : ℕ) (l : List ℕ) (i : ℕ) → i ≤ length l → ((k d : ℕ) → k < i → nat_lt (get_or l k d) n ≡ true)
    → ((k d : ℕ) → i ≤ k → k < length l → nat_lt (get_or l k d) n ≡ false) → take i l ≡ below n l
cut_before n [] zero within less more = refl
cut_before n [] (suc i) within less more = absurd (omega arith)
cut_before n (m ∷ l) zero within less more = sym (cond-false (nat_lt m n) (m ∷ below n l) [] (more 0 0 (omega arith) (omega arith)))
cut_before n (m ∷ l) (suc i) within less more =
    ap (λ (x : List ℕ). m ∷ x)
    (cut_before n l i (omega arith) (λ k d before. less (suc k) d (omega arith)) (λ k d past inside. more (suc k) d (omega arith) (omega arith)))
    ∙ sym (cond-true (nat_lt m n) (m ∷ below n l) [] (less 0 0 (omega arith)))

pub cut_at_point : (n i : ℕ) (list : List ℕ) → i ≤ length list → IsPartitionPoint (λ m. nat_lt m n ≡ true) (λ m. nat_lt m n ≡ false) list i
    → take i list ≡ below n list
cut_at_point n i list within halves = cut_before n list i within (λ k d less. halves.0 k d (omega arith) less) (λ k d more inside. halves.1 k d more inside)
