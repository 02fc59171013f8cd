-- The first number that passes a test is the least one.
use Rattle.std.proofs.Common.{◌≡◌, ℕ, zero, suc, ◌+◌, sym, ap, ◌∙◌, subst, arith, true, false, Bool, inl, inr}
use Rattle.std.specs.Prelude.{Some, ◌↔◌}
use Rattle.std.proofs.lemmas.Bool.{cond-true, cond-false, cases_Bool, cases_eq}
use Rattle.dgn_drawing.specs.Numbering.{first_from}
use Rattle.nest_tree.specs.Laws.{IsLeast}

first_least : (test : ℕ → Bool) (n count m : ℕ) → first_from test n count ≡ Some m → IsLeast test n count m
first_least test n zero m is = absurd (let e = is in cc)
first_least test n (suc count) m is =
    elim (cases_Bool (test n)) [
      | inl passes ↦
          let e : Some n ≡ Some m = sym (cond-true (test n) (Some n) (first_from test (n + 1) count) passes) ∙ is in
          let same : n ≡ m = cc in
          record { from = omega arith; before = omega arith; passes = subst (λ (k : ℕ). test k ≡ true) same passes; least = λ k low high. absurd (omega arith) }
      | inr fails ↦
          let rest = first_least test (n + 1) count m (sym (cond-false (test n) (Some n) (first_from test (n + 1) count) fails) ∙ is) in
          let from = rest.from in
          let before = rest.before in
          record {
            from = omega arith;
            before = omega arith;
            passes = rest.passes;
            least = λ k low high. elim (cases_eq k n) [
              | inl here ↦ subst (λ (j : ℕ). test j ≡ false) (sym here) fails
              | inr other ↦ rest.least k (omega arith) high
            ];
          }
    ]

least_first : (test : ℕ → Bool) (n count m : ℕ) → IsLeast test n count m → first_from test n count ≡ Some m
least_first test n zero m is = absurd (let from = is.from in let before = is.before in omega arith)
least_first test n (suc count) m is =
    let from = is.from in
    let before = is.before in
    elim (cases_eq n m) [
      | inl here ↦ cond-true (test n) _ _ (subst (λ (k : ℕ). test k ≡ true) (sym here) is.passes) ∙ ap Some here
      | inr other ↦
          cond-false (test n) _ _ (is.least n (omega arith) (omega arith))
          ∙ least_first test (n + 1) count m
          (record { from = omega arith; before = omega arith; passes = is.passes; least = λ k low high. is.least k (omega arith) high })
    ]

pub first_is : (test : ℕ → Bool) (n count m : ℕ) → (first_from test n count ≡ Some m) ↔ IsLeast test n count m
first_is test n count m = (first_least test n count m, least_first test n count m)
