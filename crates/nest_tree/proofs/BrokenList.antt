-- The broken numbers as a rising list: it is made one number behind the other, and the first broken number of a
-- span is the first of the list that isn't below the span.
use Rattle.std.proofs.Common.{◌≡◌, ℕ, zero, suc, ◌+◌, ◌-◌, ◌≤◌, ◌<◌, List, [], ◌∷◌, ◌++◌, length, get_or, refl, sym, ap, ◌∙◌, subst, arith}
use Rattle.std.proofs.Common.{length-append, true, false, Bool, inl, inr}
use Rattle.std.specs.Prelude.{Option, Some, None, option_map, slice_get, nat_lt}
use Rattle.std.specs.List.Sorted.{IsPartitionedBy, IsPartitionPoint}
use Rattle.std.proofs.lemmas.List.Sorted.{IsPartitionedBy-ltb}
use Rattle.std.proofs.lemmas.Bool.{cases_Bool, cases_lt, cond-true, cond-false, lt-ltb, le-ltb}
use Rattle.dgn_drawing.specs.declared.row.Row.{Row}
use Rattle.dgn_drawing.specs.Nesting.{itself, Forest, NoTree, Tree, flat, forest}
use Rattle.dgn_drawing.specs.Numbering.{Mark, end_of, marks, is_broken, first_from, first_broken_of}
use Rattle.nest_tree.specs.NestEntries.{NestEntry}
use Rattle.nest_tree.specs.Places.{marks_in, entry_of, end_of_mark, broken_by_entry}
use Rattle.nest_tree.specs.Passing.{passing, broken_in, first_at, if_below}
use Rattle.nest_tree.proofs.NestingSteps.{flat-forest}
use Rattle.nest_tree.proofs.ListStacks.{length-marks}
use Rattle.nest_tree.proofs.HeaderChains.{get_first, get_behind}
use Rattle.nest_tree.proofs.LeastNumber.{first_is}
use Rattle.nest_tree.proofs.LookUps.{found_of, known_of, broken_is}

-- numbers rise from one on
abbrev Rise : ℕ → List ℕ → Type 0
Rise low [] = Unit {0}
Rise low (m ∷ ms) = (low ≤ m) × Rise (m + 1) ms

-- so none is below that one
not_below : (low : ℕ) (l : List ℕ) (k d : ℕ) → Rise low l → k < length l → low ≤ get_or l k d
not_below low [] k d rise inside = absurd (omega arith)
not_below low (m ∷ l) zero d rise inside = rise.0
not_below low (m ∷ l) (suc k) d rise inside = let first = rise.0 in omega (arith, not_below (m + 1) l k d rise.1 (omega arith))

-- and none is below one before it
never_fall : (low : ℕ) (l : List ℕ) (i j d : ℕ) → Rise low l → i ≤ j → j < length l → get_or l i d ≤ get_or l j d
never_fall low [] i j d rise up inside = absurd (omega arith)
never_fall low (m ∷ l) zero zero d rise up inside = omega arith
never_fall low (m ∷ l) zero (suc j) d rise up inside = omega (arith, not_below (m + 1) l j d rise.1 (omega arith))
never_fall low (m ∷ l) (suc i) zero d rise up inside = absurd (omega arith)
never_fall low (m ∷ l) (suc i) (suc j) d rise up inside = never_fall (m + 1) l i j d rise.1 (omega arith) (omega arith)

module _ (test : ℕ → Bool) where
  -- the list grows by a number that passes
  pub one_passes : (n count : ℕ) → test (n + count) ≡ true → passing test n (suc count) ≡ passing test n count ++ (n + count) ∷ []
  one_passes n zero is =
      let place : n ≡ n + 0 = omega arith in
      cond-true (test n) (n ∷ []) [] (ap test place ∙ is) ∙ ap (λ (k : ℕ). k ∷ []) place
  one_passes n (suc count) is =
      let place : n + 1 + count ≡ n + suc count = omega arith in
      let rest : passing test (n + 1) (suc count) ≡ passing test (n + 1) count ++ (n + suc count) ∷ []
      = one_passes (n + 1) count (ap test place ∙ is) ∙ ap (λ (k : ℕ). passing test (n + 1) count ++ k ∷ []) place in
      elim (cases_Bool (test n)) [
        | inl passes ↦
            cond-true (test n) (n ∷ passing test (n + 1) (suc count)) (passing test (n + 1) (suc count)) passes ∙ ap (λ (l : List ℕ). n ∷ l) rest
            ∙ ap (λ (l : List ℕ). l ++ (n + suc count) ∷ []) (sym (cond-true (test n) (n ∷ passing test (n + 1) count) (passing test (n + 1) count) passes))
        | inr fails ↦
            cond-false (test n) (n ∷ passing test (n + 1) (suc count)) (passing test (n + 1) (suc count)) fails ∙ rest
            ∙ ap (λ (l : List ℕ). l ++ (n + suc count) ∷ []) (sym (cond-false (test n) (n ∷ passing test (n + 1) count) (passing test (n + 1) count) fails))
      ]

  -- and stays at one that doesn't
  pub one_fails : (n count : ℕ) → test (n + count) ≡ false → passing test n (suc count) ≡ passing test n count
  one_fails n zero is =
      let place : n ≡ n + 0 = omega arith in
      cond-false (test n) (n ∷ []) [] (ap test place ∙ is)
  one_fails n (suc count) is =
      let place : n + 1 + count ≡ n + suc count = omega arith in
      let rest : passing test (n + 1) (suc count) ≡ passing test (n + 1) count = one_fails (n + 1) count (ap test place ∙ is) in
      elim (cases_Bool (test n)) [
        | inl passes ↦
            cond-true (test n) (n ∷ passing test (n + 1) (suc count)) (passing test (n + 1) (suc count)) passes ∙ ap (λ (l : List ℕ). n ∷ l) rest
            ∙ sym (cond-true (test n) (n ∷ passing test (n + 1) count) (passing test (n + 1) count) passes)
        | inr fails ↦
            cond-false (test n) (n ∷ passing test (n + 1) (suc count)) (passing test (n + 1) (suc count)) fails ∙ rest
            ∙ sym (cond-false (test n) (n ∷ passing test (n + 1) count) (passing test (n + 1) count) fails)
      ]

  -- its numbers rise
  passing_rise : (n low count : ℕ) → low ≤ n → Rise low (passing test n count)
  passing_rise n low zero from = tt
  passing_rise n low (suc count) from = elim (cases_Bool (test n)) [
    | inl passes ↦ subst (Rise low) (sym (cond-true (test n) (n ∷ passing test (n + 1) count) (passing test (n + 1) count) passes))
        (from, passing_rise (n + 1) (n + 1) count (omega arith))
    | inr fails ↦ subst (Rise low) (sym (cond-false (test n) (n ∷ passing test (n + 1) count) (passing test (n + 1) count) fails))
        (passing_rise (n + 1) low count (omega arith))
  ]

  -- so those below any number are a front of the list
  pub parted : (count n : ℕ) → IsPartitionedBy (λ m. nat_lt m n) (passing test 0 count)
  parted count n = IsPartitionedBy-ltb (λ (m : ℕ). m) (passing test 0 count) n
      (λ i j d up inside. never_fall 0 (passing test 0 count) i j d (passing_rise 0 0 count (omega arith)) up inside)

  -- the first of the list that isn't below n is the first from n on that passes
  first_behind : (n from count : ℕ) → n ≤ from → first_at n (passing test from count) ≡ first_from test from count
  first_behind n from zero late = refl
  first_behind n from (suc count) late = elim (cases_Bool (test from)) [
    | inl passes ↦
        ap (first_at n) (cond-true (test from) (from ∷ passing test (from + 1) count) (passing test (from + 1) count) passes)
        ∙ cond-false (nat_lt from n) (first_at n (passing test (from + 1) count)) (Some from) (le-ltb from n late)
        ∙ sym (cond-true (test from) (Some from) (first_from test (from + 1) count) passes)
    | inr fails ↦
        ap (first_at n) (cond-false (test from) (from ∷ passing test (from + 1) count) (passing test (from + 1) count) fails)
        ∙ first_behind n (from + 1) count (omega arith)
        ∙ sym (cond-false (test from) (Some from) (first_from test (from + 1) count) fails)
  ]

  first_passing : (n from count : ℕ) → from ≤ n → first_at n (passing test from count) ≡ first_from test n (from + count - n)
  first_passing n from zero early =
      let none : 0 ≡ from + 0 - n = omega arith in
      ap (first_from test n) none
  first_passing n from (suc count) early = elim (cases_lt from n) [
    | inl less ↦
        let same : from + 1 + count - n ≡ from + suc count - n = omega arith in
        let rest = first_passing n (from + 1) count (omega arith) in
        elim (cases_Bool (test from)) [
          | inl passes ↦
              ap (first_at n) (cond-true (test from) (from ∷ passing test (from + 1) count) (passing test (from + 1) count) passes)
              ∙ cond-true (nat_lt from n) (first_at n (passing test (from + 1) count)) (Some from) (lt-ltb from n less)
              ∙ rest ∙ ap (first_from test n) same
          | inr fails ↦
              ap (first_at n) (cond-false (test from) (from ∷ passing test (from + 1) count) (passing test (from + 1) count) fails)
              ∙ rest ∙ ap (first_from test n) same
        ]
    | inr not_less ↦
        let here : from ≡ n = omega arith in
        let same : suc count ≡ from + suc count - n = omega arith in
        first_behind n from (suc count) not_less ∙ ap (λ (k : ℕ). first_from test k (suc count)) here ∙ ap (first_from test n) same
  ]

  -- of fewer numbers it is the same one, where it is below their end
  none_before : (n end : ℕ) (o : Option ℕ) → ((m : ℕ) → o ≡ Some m → n ≤ m) → end ≤ n → None ≡ if_below end o
  none_before n end None from short = refl
  none_before n end (Some m) from short = let late = from m refl in sym (cond-false (nat_lt m end) (Some m) None (le-ltb m end (omega arith)))

  first_of_fewer : (n few all end : ℕ) → few ≡ end - n → few ≤ all → first_from test n few ≡ if_below end (first_from test n all)
  first_of_fewer n zero all end is within = none_before n end (first_from test n all) (λ m found. ((first_is test n all m).0 found).from) (omega arith)
  first_of_fewer n (suc few) zero end is within = absurd (omega arith)
  first_of_fewer n (suc few) (suc all) end is within = elim (cases_Bool (test n)) [
    | inl passes ↦
        cond-true (test n) (Some n) (first_from test (n + 1) few) passes
        ∙ sym (cond-true (nat_lt n end) (Some n) None (lt-ltb n end (omega arith)))
        ∙ ap (if_below end) (sym (cond-true (test n) (Some n) (first_from test (n + 1) all) passes))
    | inr fails ↦
        cond-false (test n) (Some n) (first_from test (n + 1) few) fails
        ∙ first_of_fewer (n + 1) few all end (omega arith) (omega arith)
        ∙ ap (if_below end) (sym (cond-false (test n) (Some n) (first_from test (n + 1) all) fails))
  ]

  first_in_span : (n end count : ℕ) → end ≤ count → first_from test n (end - n) ≡ if_below end (first_at n (passing test 0 count))
  first_in_span n end count within =
      first_of_fewer n (end - n) (0 + count - n) end refl (omega arith) ∙ ap (if_below end) (sym (first_passing n 0 count (omega arith)))

-- the place behind those below n holds the first that isn't below n
pub at_point : (n : ℕ) (l : List ℕ) (i : ℕ) → ((k d : ℕ) → k < i → nat_lt (get_or l k d) n ≡ true)
    → ((k d : ℕ) → i ≤ k → k < length l → nat_lt (get_or l k d) n ≡ false) → slice_get l i ≡ first_at n l
at_point n [] i below rest = refl
at_point n (m ∷ l) zero below rest = sym (cond-false (nat_lt m n) (first_at n l) (Some m) (rest 0 0 (omega arith) (omega arith)))
at_point n (m ∷ l) (suc i) below rest =
    at_point n l i (λ k d less. below (suc k) d (omega arith)) (λ k d more inside. rest (suc k) d (omega arith) (omega arith))
    ∙ sym (cond-true (nat_lt m n) (first_at n l) (Some m) (below 0 0 (omega arith)))

-- no span ends behind the last element
ends_within : {A : Type 0} (f : Forest A) (i n depth : ℕ) (parent : Option ℕ) (high : ℕ) (m : Mark) → n + length (flat f) ≤ high
    → slice_get (marks f n depth parent) i ≡ Some m → m.end ≤ high
ends_within NoTree i n depth parent high m within is = absurd (let e = is in cc)
ends_within (Tree knot h below behind) zero n depth parent high m within is =
    let same : record { knot = knot; depth = depth; parent = parent; end = end_of n below } ≡ m = cc in
    let end = ap (λ (x : Mark). x.end) same in
    omega (arith, length-append (flat below) (flat behind))
ends_within (Tree knot h below behind) (suc i) n depth parent high m within is =
    let count = length-marks below (n + 1) (depth + 1) (Some n) in
    let long = length-append (flat below) (flat behind) in
    elim (cases_lt i (length (flat below))) [
      | inl early ↦
          ends_within below i (n + 1) (depth + 1) (Some n) high m (omega arith)
          (sym (get_first (marks below (n + 1) (depth + 1) (Some n)) (marks behind (end_of n below) depth parent) i (omega arith)) ∙ is)
      | inr late ↦
          ends_within behind (i - length (marks below (n + 1) (depth + 1) (Some n))) (end_of n below) depth parent high m (omega arith)
          (sym (get_behind (marks below (n + 1) (depth + 1) (Some n)) (marks behind (end_of n below) depth parent) i (omega arith)) ∙ is)
    ]

module _ (rows : List Row) where
  end_within : (n : ℕ) (m : Mark) → slice_get (marks_in rows) n ≡ Some m → m.end ≤ length rows
  unfolding marks_in
  end_within n m is = ends_within (forest itself rows) n 0 0 None (length rows) m (omega (arith, ap (length {A = Row}) (flat-forest itself rows))) is

  -- the first broken number of a span is the first of the list from it on, where it is below the span's end
  pub broken_before : (n end : ℕ) → Some end ≡ option_map end_of_mark (slice_get (marks_in rows) n)
      → Some (if_below end (first_at n (broken_in rows))) ≡ first_broken_of itself rows n
  unfolding broken_in
  broken_before n end is =
      let m = found_of end_of_mark (slice_get (marks_in rows) n) end is in
      let last = m.2 in
      let within : end ≤ length rows = omega (arith, end_within n m.0 m.1) in
      ap (λ (o : Option ℕ). Some o) (sym (first_in_span (is_broken itself rows) n end (length rows) within))
      ∙ known_of rows n end_of_mark (λ (m : Mark). first_from (is_broken itself rows) n (m.end - n)) (λ (e : ℕ). first_from (is_broken itself rows) n (e - n))
      (λ m. refl) end is

  -- a broken number that is found by where the list is parted
  pub found_at_point : (n i : ℕ) (list : List ℕ) → list ≡ broken_in rows
      → (IsPartitionedBy (λ m. nat_lt m n) list → IsPartitionPoint (λ m. nat_lt m n ≡ true) (λ m. nat_lt m n ≡ false) list i)
      → slice_get list i ≡ first_at n (broken_in rows)
  unfolding broken_in
  found_at_point n i list is point =
      let halves = point (subst (IsPartitionedBy (λ m. nat_lt m n)) (sym is) (parted (is_broken itself rows) (length rows) n)) in
      at_point n list i (λ k d less. halves.0 k d (omega arith) less) (λ k d more inside. halves.1 k d more inside) ∙ ap (first_at n) is

  -- what is kept of an element, and its row, say whether it is broken
  module _ (n : ℕ) (entry : NestEntry) (cbit : Bool) (is : Some entry ≡ option_map entry_of (slice_get (marks_in rows) n))
      (here : Some cbit ≡ option_map (λ (r : Row). r.cbit) (slice_get rows n))
      (list new : List ℕ) (so_far : list ≡ passing (is_broken itself rows) 0 n) where
    said : (b : Bool) → broken_by_entry n entry cbit ≡ b → is_broken itself rows (0 + n) ≡ b
    said b test =
        let place : n ≡ 0 + n = omega arith in
        ap (is_broken itself rows) (sym place) ∙ sym (broken_is rows n entry cbit is here) ∙ test

    -- so the list grows by one that is, and by no other
    pub broken_kept : broken_by_entry n entry cbit ≡ true → new ≡ list ++ n ∷ [] → new ≡ passing (is_broken itself rows) 0 (n + 1)
    broken_kept test grown =
        let place : n ≡ 0 + n = omega arith in
        let next : suc n ≡ n + 1 = omega arith in
        grown ∙ ap (λ (l : List ℕ). l ++ n ∷ []) so_far ∙ ap (λ (k : ℕ). passing (is_broken itself rows) 0 n ++ k ∷ []) place
        ∙ sym (one_passes (is_broken itself rows) 0 n (said true test)) ∙ ap (passing (is_broken itself rows) 0) next

    pub sound_passed : broken_by_entry n entry cbit ≡ false → new ≡ list → new ≡ passing (is_broken itself rows) 0 (n + 1)
    sound_passed test same =
        let next : suc n ≡ n + 1 = omega arith in
        same ∙ so_far ∙ sym (one_fails (is_broken itself rows) 0 n (said false test)) ∙ ap (passing (is_broken itself rows) 0) next

  -- all have been asked
  pub all_listed : (list : List ℕ) → list ≡ passing (is_broken itself rows) 0 (length rows) → list ≡ broken_in rows
  unfolding broken_in
  all_listed list is = is
