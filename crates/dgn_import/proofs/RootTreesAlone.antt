-- The tree of each root but the first nests alone as it stands among the others, whatever its head is.
use Rattle.std.proofs.Common.{◌≡◌, ℕ, zero, suc, ◌-◌, ◌≤◌, ◌<◌, ◌==◌, ◌&&◌, List, [], ◌∷◌, length, take, drop, Bool, true, false, cond, refl, sym, ap, ◌∙◌}
use Rattle.std.proofs.Common.{subst, arith, inl, inr}
use Rattle.std.specs.Prelude.{nat_lt}
use Rattle.std.specs.List.{AllByRecursion}
use Rattle.std.proofs.lemmas.Bool.{cases_Bool, cond-true, cond-false, le-ltb}
use Rattle.std.proofs.lemmas.List.{take_all, drop_all, length-take, length-drop, append-nil}
use Rattle.dgn_layout.specs.Classes.{class_of, is_among}
use Rattle.dgn_drawing.specs.declared.row.Row.{Row}
use Rattle.dgn_drawing.specs.Nesting.{Knot, Leaf, Whole, Parts, Members, is_all, is_counted, member_count, front_count, is_spline_part, has_bit, Shape}
use Rattle.dgn_drawing.specs.Nesting.{leaf, run_over, group_or_loose, shape, Forest, NoTree, Tree, nest, forest, flat}
use Rattle.dgn_drawing.specs.Numbering.{end_of}
use Rattle.dgn_drawing.specs.Shown.{roots}
use Rattle.nest_tree.proofs.NestingSteps.{nest_cons, nest_nil, flat-nest}
use Rattle.edit_ops.specs.Trees.{count_in, tree_at}
use Rattle.edit_ops.proofs.PartNestsAlone.{group_as}
use Rattle.edit_ops.proofs.EditedBytes.{all_so}

module _ {A : Type 0} (row : A → Row) where
  -- trees nest alone as they are
  abbrev pub NestsAlone : Forest A → Type 0
  NestsAlone t = nest row Whole (flat t) ≡ t

  -- as many pass from the front on where nothing follows those that do
  front_alone : (test : A → Bool) (l : List A) → front_count test (take (front_count test l) l) ≡ front_count test l
  front_alone test [] = refl
  front_alone test (e ∷ l) = elim (cases_Bool (test e)) [
    | inl passes ↦
        let count : front_count test (e ∷ l) ≡ suc (front_count test l) = cond-true (test e) (suc (front_count test l)) 0 passes in
        ap (λ (n : ℕ). front_count test (take n (e ∷ l))) count
        ∙ cond-true (test e) (suc (front_count test (take (front_count test l) l))) 0 passes
        ∙ ap suc (front_alone test l)
        ∙ sym count
    | inr fails ↦
        let count : front_count test (e ∷ l) ≡ 0 = cond-false (test e) (suc (front_count test l)) 0 fails in
        ap (λ (n : ℕ). front_count test (take n (e ∷ l))) count ∙ sym count
  ]

  module _ (h : A) (r : List A) where
    -- the shape of a root over some elements, by what its type is
    abbrev rest_shape : List A → Shape
    rest_shape l = cond ((row h).kind == 34 && is_all Whole) (run_over Members (front_count (λ e. has_bit (row e)) l)) leaf

    abbrev run_shape : List A → Shape
    run_shape l = cond (is_among (row h).kind (24 ∷ 27 ∷ [])) (run_over Parts (front_count (λ e. is_spline_part (row e)) l)) (rest_shape l)

    shape_is : (l : List A) → shape row Whole h l ≡ cond (is_counted (class_of (row h).kind)) (group_or_loose (member_count row (row h) l)) (run_shape l)
    shape_is l = refl

    -- it is the same over those that it counts alone
    counted_alone : is_counted (class_of (row h).kind) ≡ true → shape row Whole h (take (shape row Whole h r).count r) ≡ shape row Whole h r
    counted_alone counted =
        let is : shape row Whole h r ≡ group_or_loose (member_count row (row h) r) = shape_is r ∙ cond-true (is_counted (class_of (row h).kind)) _ _ counted in
        ap (λ (s : Shape). shape row Whole h (take s.count r)) is
        ∙ shape_is (take (group_or_loose (member_count row (row h) r)).count r)
        ∙ cond-true (is_counted (class_of (row h).kind)) _ _ counted
        ∙ group_as row (row h) r (member_count row (row h) r) refl
        ∙ sym is

    plain : (l : List A) → is_counted (class_of (row h).kind) ≡ false → shape row Whole h l ≡ run_shape l
    plain l uncounted = shape_is l ∙ cond-false (is_counted (class_of (row h).kind)) _ _ uncounted

    spline_alone : is_counted (class_of (row h).kind) ≡ false → is_among (row h).kind (24 ∷ 27 ∷ []) ≡ true
        → shape row Whole h (take (shape row Whole h r).count r) ≡ shape row Whole h r
    spline_alone uncounted spline =
        let among : (l : List A) → shape row Whole h l ≡ run_over Parts (front_count (λ e. is_spline_part (row e)) l) =
        λ l. plain l uncounted ∙ cond-true (is_among (row h).kind (24 ∷ 27 ∷ [])) _ _ spline in
        ap (λ (s : Shape). shape row Whole h (take s.count r)) (among r)
        ∙ among (take (front_count (λ e. is_spline_part (row e)) r) r)
        ∙ ap (run_over Parts) (front_alone (λ e. is_spline_part (row e)) r)
        ∙ sym (among r)

    shared_alone : is_counted (class_of (row h).kind) ≡ false → is_among (row h).kind (24 ∷ 27 ∷ []) ≡ false → ((row h).kind == 34 && is_all Whole) ≡ true
        → shape row Whole h (take (shape row Whole h r).count r) ≡ shape row Whole h r
    shared_alone uncounted straight own =
        let among : (l : List A) → shape row Whole h l ≡ run_over Members (front_count (λ e. has_bit (row e)) l) =
        λ l. plain l uncounted ∙ cond-false (is_among (row h).kind (24 ∷ 27 ∷ [])) _ _ straight ∙ cond-true ((row h).kind == 34 && is_all Whole) _ _ own in
        ap (λ (s : Shape). shape row Whole h (take s.count r)) (among r)
        ∙ among (take (front_count (λ e. has_bit (row e)) r) r)
        ∙ ap (run_over Members) (front_alone (λ e. has_bit (row e)) r)
        ∙ sym (among r)

    leaf_alone : is_counted (class_of (row h).kind) ≡ false → is_among (row h).kind (24 ∷ 27 ∷ []) ≡ false → ((row h).kind == 34 && is_all Whole) ≡ false
        → shape row Whole h (take (shape row Whole h r).count r) ≡ shape row Whole h r
    leaf_alone uncounted straight other =
        let among : (l : List A) → shape row Whole h l ≡ leaf =
        λ l. plain l uncounted ∙ cond-false (is_among (row h).kind (24 ∷ 27 ∷ [])) _ _ straight ∙ cond-false ((row h).kind == 34 && is_all Whole) _ _ other in
        among (take (shape row Whole h r).count r) ∙ sym (among r)

    shape_alone : shape row Whole h (take (shape row Whole h r).count r) ≡ shape row Whole h r
    shape_alone = elim (cases_Bool (is_counted (class_of (row h).kind))) [
      | inl counted ↦ counted_alone counted
      | inr uncounted ↦ elim (cases_Bool (is_among (row h).kind (24 ∷ 27 ∷ []))) [
        | inl spline ↦ spline_alone uncounted spline
        | inr straight ↦ elim (cases_Bool ((row h).kind == 34 && is_all Whole)) [
          | inl own ↦ shared_alone uncounted straight own
          | inr other ↦ leaf_alone uncounted straight other
        ]
      ]
    ]

    -- so the tree of a first element nests alone
    first_alone : NestsAlone (Tree (shape row Whole h r).knot h (nest row (shape row Whole h r).inside (take (shape row Whole h r).count r)) NoTree)
    first_alone =
        let s : Shape = shape row Whole h r in
        let l : List A = take (shape row Whole h r).count r in
        let short : length (take (shape row Whole h r).count r) ≤ (shape row Whole h r).count = omega (arith, length-take (shape row Whole h r).count r) in
        ap (λ (x : List A). nest row Whole (h ∷ x)) (append-nil (flat (nest row s.inside l)) ∙ flat-nest row s.inside l)
        ∙ nest_cons row Whole h l
        ∙ ap (λ (x : Shape). Tree x.knot h (nest row x.inside (take x.count l)) (nest row Whole (drop x.count l))) shape_alone
        ∙ ap (λ (x : List A). Tree s.knot h (nest row s.inside x) (nest row Whole (drop s.count l))) (take_all s.count l short)
        ∙ ap (λ (x : List A). Tree s.knot h (nest row s.inside l) (nest row Whole x)) (drop_all s.count l short)
        ∙ ap (λ (t : Forest A). Tree s.knot h (nest row s.inside l) t) (nest_nil row Whole)

  -- a tree behind the first one, by its number
  later_tree : (knot : Knot) (h : A) (below behind : Forest A) (n k : ℕ) → end_of n below ≤ k
      → tree_at (k - n) (Tree knot h below behind) ≡ tree_at (k - end_of n below) behind
  later_tree knot h below behind n k late =
      let on : k - n ≡ suc (k - n - 1) = omega (arith, late) in
      let outside : count_in below ≤ k - n - 1 = omega (arith, late) in
      let left : k - n - 1 - count_in below ≡ k - end_of n below = omega (arith, late) in
      ap (λ (j : ℕ). tree_at j (Tree knot h below behind)) on
      ∙ cond-false (nat_lt (k - n - 1) (count_in below)) (tree_at (k - n - 1) below) (tree_at (k - n - 1 - count_in below) behind)
      (le-ltb (k - n - 1) (count_in below) outside)
      ∙ ap (λ (j : ℕ). tree_at j behind) left

  abbrev StandsAlone : ℕ → Forest A → ℕ → Type 0
  StandsAlone n f k = (n ≤ k) × NestsAlone (tree_at (k - n) f)

  -- the trees of a list that is read as roots, numbered from n on
  list_alone : (m n : ℕ) (l : List A) → length l ≤ m → AllByRecursion (StandsAlone n (nest row Whole l)) (roots n (nest row Whole l))
  list_alone m n [] short = subst (λ (f : Forest A). AllByRecursion (StandsAlone n f) (roots n f)) (sym (nest_nil row Whole)) tt
  list_alone zero n (h ∷ r) short = absurd (omega arith)
  list_alone (suc m) n (h ∷ r) short =
      let s : Shape = shape row Whole h r in
      let below : Forest A = nest row s.inside (take s.count r) in
      let behind : Forest A = nest row Whole (drop s.count r) in
      let same : 0 ≡ n - n = omega arith in
      subst (λ (f : Forest A). AllByRecursion (StandsAlone n f) (roots n f)) (sym (nest_cons row Whole h r)) (
        (omega arith, subst (λ (j : ℕ). NestsAlone (tree_at j (Tree s.knot h below behind))) same (first_alone h r)),
        all_so (StandsAlone (end_of n below) behind) (StandsAlone n (Tree s.knot h below behind))
            (λ k at. (omega (arith, at.0), subst NestsAlone (sym (later_tree s.knot h below behind n k at.0)) at.1))
            (roots (end_of n below) behind)
            (list_alone m (end_of n below) (drop s.count r) (omega (arith, length-drop s.count r))),
      )

  -- the tree of each root but the first
  pub roots_alone : (l : List A) → AllByRecursion (λ k. 0 < k → NestsAlone (tree_at k (forest row l))) (roots 0 (forest row l))
  roots_alone [] = tt
  roots_alone (e ∷ l) = (
    λ later. absurd (omega (arith, later)),
    all_so (StandsAlone (end_of {A = A} 0 NoTree) (nest row Whole l)) (λ k. 0 < k → NestsAlone (tree_at k (forest row (e ∷ l))))
        (λ k at later.
        let whole : k - 0 ≡ k = omega arith in
        subst (λ (j : ℕ). NestsAlone (tree_at j (forest row (e ∷ l)))) whole
        (subst NestsAlone (sym (later_tree Leaf e NoTree (nest row Whole l) 0 k at.0)) at.1))
        (roots (end_of {A = A} 0 NoTree) (nest row Whole l))
        (list_alone (length l) (end_of {A = A} 0 NoTree) l (omega arith)),
  )
