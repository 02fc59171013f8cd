-- The headers above an element are those above its own header, and that one: so they are found by going up from
-- parent to parent.
use Rattle.std.proofs.Common.{◌≡◌, ◌⊎◌, ℕ, zero, suc, ◌+◌, ◌-◌, ◌<◌, ◌≤◌, List, [], ◌∷◌, ◌++◌, length, map, refl, sym, ap, ◌∙◌, arith, cond, inl, inr}
use Rattle.std.specs.Prelude.{Option, Some, None, option_map, slice_get, nat_lt}
use Rattle.std.proofs.lemmas.List.{length-map}
use Rattle.std.proofs.lemmas.Bool.{cases_Bool, cond-true, cond-false, ltb-true, ltb-false, lt-ltb, le-ltb}
use Rattle.dgn_drawing.specs.declared.row.Row.{Row}
use Rattle.dgn_drawing.specs.Nesting.{Knot, Forest, NoTree, Tree, flat, forest, forest_map, itself}
use Rattle.dgn_drawing.specs.Numbering.{Mark, end_of, marks, mark_of, parent_of, headers_in, headers_of, first_or, root_of}
use Rattle.nest_tree.proofs.ByRows.{flat-map, forest_rows}
use Rattle.nest_tree.proofs.ListStacks.{length-marks}

-- what stands at a place of two lists, one behind the other, stands in the first or in the second
pub get_first : {B : Type 0} (xs ys : List B) (n : ℕ) → n < length xs → slice_get (xs ++ ys) n ≡ slice_get xs n
get_first [] ys n within = absurd (omega arith)
get_first (x ∷ xs) ys zero within = refl
get_first (x ∷ xs) ys (suc n) within = get_first xs ys n (omega arith)

pub get_behind : {B : Type 0} (xs ys : List B) (n : ℕ) → length xs ≤ n → slice_get (xs ++ ys) n ≡ slice_get ys (n - length xs)
get_behind [] ys n past = ap (slice_get ys) (omega arith)
get_behind (x ∷ xs) ys zero past = absurd (omega arith)
get_behind (x ∷ xs) ys (suc n) past =
    let same : n - length xs ≡ suc n - suc (length xs) = omega arith in
    get_behind xs ys n (omega arith) ∙ ap (slice_get ys) same

-- the parent of the n-th element of trees that are numbered from `first` on is the number of one before it, and
-- the headers above it are those above that one, and then that one
record Climbs {A : Type 0} (f : Forest A) (n first : ℕ) (parent : Option ℕ) : Type 0 where
  pub steps : ℕ
  pub before : steps < n
  pub is : parent ≡ Some (first + steps)
  pub headers : headers_in n first f ≡ headers_in steps first f ++ (first + steps) ∷ []

-- or it is a root, above which there are no headers
abbrev Ends : {A : Type 0} → Forest A → ℕ → ℕ → Option ℕ → Option ℕ → Type 0
Ends f n first around parent = (parent ≡ around) × (headers_in n first f ≡ [])

module _ {A : Type 0} (knot : Knot) (h : A) (below behind : Forest A) (n first : ℕ) where
  -- the headers above an element below the first head, and above one behind it
  headers_below : n < length (flat below) → headers_in (suc n) first (Tree knot h below behind) ≡ first ∷ headers_in n (first + 1) below
  headers_below within = cond-true (nat_lt n (length (flat below))) _ _ (lt-ltb n (length (flat below)) within)

  headers_behind : length (flat below) ≤ n
      → headers_in (suc n) first (Tree knot h below behind) ≡ headers_in (n - length (flat below)) (end_of first below) behind
  headers_behind past = cond-false (nat_lt n (length (flat below))) _ _ (le-ltb n (length (flat below)) past)

module _ {A : Type 0} (knot : Knot) (h : A) (below behind : Forest A) (n first : ℕ) (around parent : Option ℕ) where
  from_below : n < length (flat below) → Climbs below n (first + 1) parent ⊎ Ends below n (first + 1) (Some first) parent
      → Climbs (Tree knot h below behind) (suc n) first parent ⊎ Ends (Tree knot h below behind) (suc n) first around parent
  from_below within (inl c) =
      let before = c.before in
      let place : first + 1 + c.steps ≡ first + suc c.steps = omega arith in
      inl (record {
        steps = suc c.steps;
        before = omega arith;
        is = c.is ∙ ap Some place;
        headers = headers_below knot h below behind n first within ∙ ap (λ (l : List ℕ). first ∷ l) c.headers
            ∙ ap (λ (l : List ℕ). l ++ (first + 1 + c.steps) ∷ []) (sym (headers_below knot h below behind c.steps first (omega arith)))
            ∙ ap (λ (k : ℕ). headers_in (suc c.steps) first (Tree knot h below behind) ++ k ∷ []) place;
      })
  from_below within (inr e) =
      let place : first ≡ first + 0 = omega arith in
      inl (record {
        steps = 0;
        before = omega arith;
        is = e.0 ∙ ap Some place;
        headers = headers_below knot h below behind n first within ∙ ap (λ (l : List ℕ). first ∷ l) e.1 ∙ ap (λ (k : ℕ). k ∷ []) place;
      })

  from_behind : length (flat below) ≤ n
      → Climbs behind (n - length (flat below)) (end_of first below) parent ⊎ Ends behind (n - length (flat below)) (end_of first below) around parent
      → Climbs (Tree knot h below behind) (suc n) first parent ⊎ Ends (Tree knot h below behind) (suc n) first around parent
  from_behind past (inl c) =
      let before = c.before in
      let place : end_of first below + c.steps ≡ first + suc (length (flat below) + c.steps) = omega arith in
      let left : length (flat below) + c.steps - length (flat below) ≡ c.steps = omega arith in
      inl (record {
        steps = suc (length (flat below) + c.steps);
        before = omega arith;
        is = c.is ∙ ap Some place;
        headers = headers_behind knot h below behind n first past ∙ c.headers
            ∙ ap (λ (k : ℕ). headers_in k (end_of first below) behind ++ (end_of first below + c.steps) ∷ []) (sym left)
            ∙ ap (λ (l : List ℕ). l ++ (end_of first below + c.steps) ∷ [])
            (sym (headers_behind knot h below behind (length (flat below) + c.steps) first (omega arith)))
            ∙ ap (λ (k : ℕ). headers_in (suc (length (flat below) + c.steps)) first (Tree knot h below behind) ++ k ∷ []) place;
      })
  from_behind past (inr e) = inr (e.0, headers_behind knot h below behind n first past ∙ e.1)

-- one or the other holds of each element
climbs_in : {A : Type 0} (f : Forest A) (n first depth : ℕ) (around : Option ℕ) (m : Mark) → slice_get (marks f first depth around) n ≡ Some m
    → Climbs f n first m.parent ⊎ Ends f n first around m.parent
climbs_in NoTree n first depth around m is = absurd (let e = is in cc)
climbs_in (Tree knot h below behind) zero first depth around m is =
    let same : record { knot = knot; depth = depth; parent = around; end = end_of first below } ≡ m = cc in
    inr (sym (ap (λ (x : Mark). x.parent) same), refl)
climbs_in (Tree knot h below behind) (suc n) first depth around m is =
    let count = length-marks below (first + 1) (depth + 1) (Some first) in
    elim (cases_Bool (nat_lt n (length (flat below)))) [
      | inl early ↦
          let within : n < length (flat below) = ltb-true n (length (flat below)) early in
          from_below knot h below behind n first around m.parent within
          (climbs_in below n (first + 1) (depth + 1) (Some first) m
          (sym (get_first (marks below (first + 1) (depth + 1) (Some first)) (marks behind (end_of first below) depth around) n (omega arith)) ∙ is))
      | inr late ↦
          let past : length (flat below) ≤ n = ltb-false n (length (flat below)) late in
          from_behind knot h below behind n first around m.parent past
          (climbs_in behind (n - length (flat below)) (end_of first below) depth around m
          (ap (λ (k : ℕ). slice_get (marks behind (end_of first below) depth around) (n - k)) (sym count)
          ∙ sym (get_behind (marks below (first + 1) (depth + 1) (Some first)) (marks behind (end_of first below) depth around) n (omega arith)) ∙ is))
    ]

-- a known parent is that of a mark
mark_with : (o : Option Mark) (p : Option ℕ) → Some p ≡ option_map (λ (m : Mark). m.parent) o → (m : Mark) × (o ≡ Some m) × (p ≡ m.parent)
mark_with None p is = absurd (let e = is in cc)
mark_with (Some m) p is = (m, refl, cc)

module _ {A : Type 0} (row : A → Row) (es : List A) (n : ℕ) where
  -- the headers above an element below a header are those above that header, and then that one, which is before it
  pub climbs : (q : ℕ) → Some (Some q) ≡ parent_of row es n → (q < n) × (headers_of row es n ≡ headers_of row es q ++ q ∷ [])
  climbs q is =
      let m = mark_with (mark_of row es n) (Some q) is in
      elim (climbs_in (forest row es) n 0 0 None m.0 m.1) [
        | inl c ↦
            let before = c.before in
            let parent : Some q ≡ Some (0 + c.steps) = m.2 ∙ c.is in
            let same : 0 + c.steps ≡ q = cc in
            let steps : c.steps ≡ q = omega arith in (
              omega arith,
              c.headers ∙ ap (λ (k : ℕ). headers_of row es c.steps ++ k ∷ []) same ∙ ap (λ (k : ℕ). headers_of row es k ++ q ∷ []) steps,
            )
        | inr e ↦ absurd (let parent : Some q ≡ None = m.2 ∙ e.0 in cc)
      ]

  -- there are no headers above a root
  pub ends_climb : Some None ≡ parent_of row es n → headers_of row es n ≡ []
  ends_climb is =
      let m = mark_with (mark_of row es n) None is in
      elim (climbs_in (forest row es) n 0 0 None m.0 m.1) [
        | inl c ↦ absurd (let parent : None ≡ Some (0 + c.steps) = m.2 ∙ c.is in cc)
        | inr e ↦ e.1
      ]

  -- the root of an element below a header is that of the header, and a root is its own
  first_before : (l : List ℕ) (q : ℕ) → first_or n (l ++ q ∷ []) ≡ first_or q l
  first_before [] q = refl
  first_before (k ∷ l) q = refl

  pub climbs_first : (q : ℕ) → Some (Some q) ≡ parent_of row es n → first_or n (headers_of row es n) ≡ first_or q (headers_of row es q)
  climbs_first q is = ap (first_or n) (climbs q is).1 ∙ first_before (headers_of row es q) q

  pub ends_first : Some None ≡ parent_of row es n → first_or n (headers_of row es n) ≡ n
  ends_first is = ap (first_or n) (ends_climb is)

  pub root_known : n < length es → root_of row es n ≡ Some (first_or n (headers_of row es n))
  root_known within = cond-true (nat_lt n (length es)) _ _ (lt-ltb n (length es) within)

-- headers look at the forms of trees alone
headers-map : {A B : Type 0} (f : A → B) (t : Forest A) (n first : ℕ) → headers_in n first (forest_map f t) ≡ headers_in n first t
headers-map f NoTree n first = refl
headers-map f (Tree knot h below behind) zero first = refl
headers-map {A} {B} f (Tree knot h below behind) (suc n) first =
    let same : length (flat (forest_map f below)) ≡ length (flat below) = ap (length {A = B}) (flat-map f below) ∙ length-map (flat below) f in
    ap (λ (k : ℕ). cond (nat_lt n k) (first ∷ headers_in n (first + 1) (forest_map f below)) (headers_in (n - k) (first + 1 + k) (forest_map f behind))) same
    ∙ ap (λ (l : List ℕ). cond (nat_lt n (length (flat below))) (first ∷ l)
    (headers_in (n - length (flat below)) (end_of first below) (forest_map f behind))) (headers-map f below n (first + 1))
    ∙ ap (λ (l : List ℕ). cond (nat_lt n (length (flat below))) (first ∷ headers_in n (first + 1) below) l)
    (headers-map f behind (n - length (flat below)) (end_of first below))

-- so the headers above an element are found by the rows
pub headers_by_rows : {A : Type 0} (row : A → Row) (es : List A) (n : ℕ) → headers_of itself (map row es) n ≡ headers_of row es n
headers_by_rows row es n = ap (headers_in n 0) (sym (forest_rows row es)) ∙ headers-map row (forest row es) n 0
