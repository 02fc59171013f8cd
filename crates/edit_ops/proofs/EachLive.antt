-- What holds of each element of trees holds of each live one, and of each element of the tree of one of them.
use Rattle.std.proofs.Common.{◌≡◌, ℕ, zero, suc, ◌+◌, ◌-◌, List, [], ◌∷◌, ◌++◌, length, sym, ap, subst, true, false, inl, inr}
use Rattle.std.specs.Prelude.{nat_lt}
use Rattle.std.specs.List.{AllByRecursion}
use Rattle.std.proofs.lemmas.Bool.{cases_Bool, cond_both, cond-true, cond-false}
use Rattle.dgn_drawing.specs.Element.{Element}
use Rattle.dgn_drawing.specs.Spelling.{size_of, spelling}
use Rattle.dgn_drawing.specs.Rows.{row_of}
use Rattle.dgn_drawing.specs.Nesting.{Knot, Forest, NoTree, Tree, flat, forest}
use Rattle.dgn_drawing.specs.Numbering.{end_of}
use Rattle.nest_tree.proofs.NestingSteps.{flat-forest}
use Rattle.elem_index.specs.Offsets.{offset_of}
use Rattle.edit_ops.specs.Trees.{count_in, tree_at, Live, live_from, live_tree, above_from, above_tree, every_from, Reach, Living, Every, Head, reached_from, reached}

module _ {A : Type 0} (P : A → Type 0) where
  -- what holds of each of two lists holds of each of both
  pub each_both : (xs ys : List A) → AllByRecursion P xs → AllByRecursion P ys → AllByRecursion P (xs ++ ys)
  each_both [] ys first last = last
  each_both (x ∷ xs) ys first last = (first.0, each_both xs ys first.1 last)

  -- and the other way round, of the first list
  pub each_first : (xs ys : List A) → AllByRecursion P (xs ++ ys) → AllByRecursion P xs
  each_first [] ys both = tt
  each_first (x ∷ xs) ys both = (both.0, each_first xs ys both.1)

  -- and of the last one
  pub each_last : (xs ys : List A) → AllByRecursion P (xs ++ ys) → AllByRecursion P ys
  each_last [] ys both = both
  each_last (x ∷ xs) ys both = each_last xs ys both.1

  -- the elements of the tree of one element are elements of the trees
  pub tree_each : (n : ℕ) (f : Forest A) → AllByRecursion P (flat f) → AllByRecursion P (flat (tree_at n f))
  tree_each n NoTree each = tt
  tree_each zero (Tree knot h below behind) each = (each.0, each_both (flat below) [] (each_first (flat below) (flat behind) each.1) tt)
  tree_each (suc n) (Tree knot h below behind) each =
      cond_both (nat_lt n (count_in below)) (tree_at n below) (tree_at (n - count_in below) behind) (λ f. AllByRecursion P (flat f))
      (λ _. tree_each n below (each_first (flat below) (flat behind) each.1))
      (λ _. tree_each (n - count_in below) behind (each_last (flat below) (flat behind) each.1))

-- the live elements of the first of some trees: none, or its head and those below it
abbrev pub live_first : ℕ → ℕ → Element → Forest Element → List Live
live_first n p e below = record { number = n; place = p; element = e } ∷ live_from (n + 1) (p + size_of e) below

-- the live elements behind it
abbrev pub live_behind : ℕ → ℕ → Element → Forest Element → Forest Element → List Live
live_behind n p e below behind = live_from (end_of n below) (p + (size_of e + length (spelling (flat below)))) behind

-- the first tree of a dead head has no live elements
pub live_dead : (n p : ℕ) (knot : Knot) (e : Element) (below behind : Forest Element) → e.deleted ≡ true
    → live_from n p (Tree knot e below behind) ≡ live_behind n p e below behind
live_dead n p knot e below behind dead = ap (λ (l : List Live). l ++ live_behind n p e below behind) (cond-true e.deleted [] (live_first n p e below) dead)

-- that of a live one has its head and the live elements below it
pub live_alive : (n p : ℕ) (knot : Knot) (e : Element) (below behind : Forest Element) → e.deleted ≡ false
    → live_from n p (Tree knot e below behind) ≡ live_first n p e below ++ live_behind n p e below behind
live_alive n p knot e below behind alive = ap (λ (l : List Live). l ++ live_behind n p e below behind) (cond-false e.deleted [] (live_first n p e below) alive)

-- what holds of each element of trees holds of each live one
pub live_each : (P : Element → Type 0) (n p : ℕ) (f : Forest Element) → AllByRecursion P (flat f) → AllByRecursion (λ (v : Live). P v.element) (live_from n p f)
live_each P n p NoTree each = tt
live_each P n p (Tree knot e below behind) each =
    let inner = live_each P (n + 1) (p + size_of e) below (each_first P (flat below) (flat behind) each.1) in
    let outer = live_each P (end_of n below) (p + (size_of e + length (spelling (flat below)))) behind (each_last P (flat below) (flat behind) each.1) in
    elim (cases_Bool e.deleted) [
      | inl dead ↦ subst (AllByRecursion (λ (v : Live). P v.element)) (sym (live_dead n p knot e below behind dead)) outer
      | inr alive ↦
          subst (AllByRecursion (λ (v : Live). P v.element)) (sym (live_alive n p knot e below behind alive))
          (each.0, each_both (λ (v : Live). P v.element) (live_from (n + 1) (p + size_of e) below) (live_behind n p e below behind) inner outer)
    ]

-- what holds of each element of a drawing holds of each live element of the tree of one
pub live_tree_each : (P : Element → Type 0) (es : List Element) (n : ℕ) → AllByRecursion P es → AllByRecursion (λ (v : Live). P v.element) (live_tree es n)
live_tree_each P es n each =
    live_each P n (offset_of es n) (tree_at n (forest row_of es))
    (tree_each P n (forest row_of es) (subst (AllByRecursion P) (sym (flat-forest row_of es)) each))

-- and of each of all
every_each : (P : Element → Type 0) (n p : ℕ) (f : Forest Element) → AllByRecursion P (flat f) → AllByRecursion (λ (v : Live). P v.element) (every_from n p f)
every_each P n p NoTree each = tt
every_each P n p (Tree knot e below behind) each = (
  each.0,
  each_both (λ (v : Live). P v.element) (every_from (n + 1) (p + size_of e) below)
      (every_from (end_of n below) (p + (size_of e + length (spelling (flat below)))) behind)
      (every_each P (n + 1) (p + size_of e) below (each_first P (flat below) (flat behind) each.1))
      (every_each P (end_of n below) (p + (size_of e + length (spelling (flat below)))) behind (each_last P (flat below) (flat behind) each.1)),
)

-- so of each that a change reaches
pub reach_each : (P : Element → Type 0) (reach : Reach) (n p : ℕ) (f : Forest Element) → AllByRecursion P (flat f)
    → AllByRecursion (λ (v : Live). P v.element) (reached_from reach n p f)
reach_each P Living n p f each = live_each P n p f each
reach_each P Every n p f each = every_each P n p f each
reach_each P Head n p NoTree each = tt
reach_each P Head n p (Tree knot e below behind) each = (each.0, tt)

pub reached_each : (P : Element → Type 0) (reach : Reach) (es : List Element) (n : ℕ) → AllByRecursion P es
    → AllByRecursion (λ (v : Live). P v.element) (reached reach es n)
reached_each P reach es n each =
    reach_each P reach n (offset_of es n) (tree_at n (forest row_of es))
    (tree_each P n (forest row_of es) (subst (AllByRecursion P) (sym (flat-forest row_of es)) each))

-- what holds of each element of trees holds of each header above one
pub above_each : (P : Element → Type 0) (n first p : ℕ) (f : Forest Element) → AllByRecursion P (flat f)
    → AllByRecursion (λ (v : Live). P v.element) (above_from n first p f)
above_each P n first p NoTree each = tt
above_each P zero first p (Tree knot e below behind) each = tt
above_each P (suc n) first p (Tree knot e below behind) each =
    cond_both (nat_lt n (count_in below)) _ _ (λ (vs : List Live). AllByRecursion (λ (v : Live). P v.element) vs)
    (λ _. (each.0, above_each P n (first + 1) (p + size_of e) below (each_first P (flat below) (flat behind) each.1)))
    (λ _. above_each P (n - count_in below) (end_of first below) (p + (size_of e + length (spelling (flat below)))) behind
    (each_last P (flat below) (flat behind) each.1))

-- what holds of each element of a drawing holds of each header above one
pub above_tree_each : (P : Element → Type 0) (es : List Element) (n : ℕ) → AllByRecursion P es → AllByRecursion (λ (v : Live). P v.element) (above_tree es n)
above_tree_each P es n each = above_each P n 0 0 (forest row_of es) (subst (AllByRecursion P) (sym (flat-forest row_of es)) each)

-- what holds of the live elements of trees holds of the first head, if that is live, and of the live elements
-- below and behind it
pub record LiveParts (Q : Live → Type 0) (n p : ℕ) (e : Element) (below behind : Forest Element) : Type 0 where
  pub head : e.deleted ≡ false → Q (record { number = n; place = p; element = e })
  pub inner : e.deleted ≡ false → AllByRecursion Q (live_from (n + 1) (p + size_of e) below)
  pub outer : AllByRecursion Q (live_behind n p e below behind)

pub live_parts : (Q : Live → Type 0) (n p : ℕ) (knot : Knot) (e : Element) (below behind : Forest Element)
    → AllByRecursion Q (live_from n p (Tree knot e below behind)) → LiveParts Q n p e below behind
live_parts Q n p knot e below behind each = record {
  head = λ alive. (subst (AllByRecursion Q) (live_alive n p knot e below behind alive) each).0;
  inner = λ alive. each_first Q (live_from (n + 1) (p + size_of e) below) (live_behind n p e below behind)
      (subst (AllByRecursion Q) (live_alive n p knot e below behind alive) each).1;
  outer = elim (cases_Bool e.deleted) [
    | inl dead ↦ subst (AllByRecursion Q) (live_dead n p knot e below behind dead) each
    | inr alive ↦ each_last Q (live_from (n + 1) (p + size_of e) below) (live_behind n p e below behind)
        (subst (AllByRecursion Q) (live_alive n p knot e below behind alive) each).1
  ];
}
