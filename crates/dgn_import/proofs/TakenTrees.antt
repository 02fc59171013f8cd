-- What is known of each root whose tree is taken: it is there, isn't the first, is drawn and has no bit C; and its tree
-- nests alone.
use Rattle.std.proofs.Common.{◌≡◌, ℕ, zero, suc, ◌+◌, ◌-◌, ◌<◌, ◌==◌, ◌&&◌, List, [], ◌∷◌, ◌++◌, length, drop, Bool, true, false, Option, Some, None}
use Rattle.std.proofs.Common.{refl, sym, ap, ◌∙◌, subst, arith, inl, inr}
use Rattle.std.specs.Prelude.{not, is_some, filter, slice_get, option_map}
use Rattle.std.specs.List.{AllByRecursion}
use Rattle.std.proofs.lemmas.Bool.{cases_Bool, cond-true, cond-false, and_parts, or_parts, not-true}
use Rattle.std.proofs.lemmas.List.{drop_at}
use Rattle.std.proofs.lemmas.Option.{slice_get_within}
use Rattle.dgn_layout.specs.Classes.{class_of, is_silent}
use Rattle.dgn_drawing.specs.Element.{Element}
use Rattle.dgn_drawing.specs.Rows.{row_of}
use Rattle.dgn_drawing.specs.Nesting.{Whole, Forest, nest, forest, flat, BeginsFree}
use Rattle.dgn_drawing.specs.Numbering.{Mark, is_loose, is_orphan, is_broken_as, is_broken, first_from, first_broken_of}
use Rattle.dgn_drawing.specs.Shown.{roots, IsRoot}
use Rattle.level_view.proofs.RootItems.{all_roots}
use Rattle.edit_ops.specs.Trees.{tree_at}
use Rattle.edit_ops.proofs.PartPlace.{IsPlaced, placed, first_left}
use Rattle.edit_ops.proofs.EditedBytes.{all_so, all_both}
use Rattle.dgn_import.specs.Gathering.{is_drawn, is_unbroken, is_taken, taken}
use Rattle.dgn_import.proofs.RootTreesAlone.{roots_alone}

-- what holds of each number and of each that passes a test
filter_each : (P : ℕ → Type 0) (test : ℕ → Bool) (ns : List ℕ) → AllByRecursion P ns → AllByRecursion (λ n. P n × (test n ≡ true)) (filter test ns)
filter_each P test [] each = tt
filter_each P test (n ∷ ns) each = elim (cases_Bool (test n)) [
  | inl passes ↦ subst (AllByRecursion (λ k. P k × (test k ≡ true))) (sym (cond-true (test n) (n ∷ filter test ns) (filter test ns) passes))
      ((each.0, passes), filter_each P test ns each.1)
  | inr fails ↦ subst (AllByRecursion (λ k. P k × (test k ≡ true))) (sym (cond-false (test n) (n ∷ filter test ns) (filter test ns) fails))
      (filter_each P test ns each.1)
]

-- a root whose tree is taken
pub record IsTakenRoot (es : List Element) (n : ℕ) : Type 0 where
  pub known : n < length es
  pub later : 0 < n
  pub head : Element
  pub there : slice_get es n ≡ Some head
  pub alive : head.deleted ≡ false
  pub free : BeginsFree row_of (flat (tree_at n (forest row_of es)))
  pub alone : nest row_of Whole (flat (tree_at n (forest row_of es))) ≡ tree_at n (forest row_of es)

-- a number that isn't 0
later_than : (n : ℕ) → (n == 0) ≡ false → 0 < n
later_than zero is = absurd (let x = is in cc)
later_than (suc n) is = omega arith

-- an element that is drawn
drawn : (o : Option Element) → is_drawn o ≡ true → (e : Element) × (o ≡ Some e) × (e.deleted ≡ false)
drawn None is = absurd (let x = is in cc)
drawn (Some e) is = (e, refl, not-true e.deleted (and_parts (not (is_silent (class_of e.kind))) (not e.deleted) is).1)

-- a tree without a broken number
unbroken : (o : Option (Option ℕ)) → is_unbroken o ≡ true → o ≡ Some None
unbroken None is = absurd (let x = is in cc)
unbroken (Some None) is = refl
unbroken (Some (Some least)) is = absurd (let x = is in cc)

-- the first of some numbers doesn't pass where none does
first_fails : (test : ℕ → Bool) (n count : ℕ) → 0 < count → first_from test n count ≡ None → test n ≡ false
first_fails test n zero some none = absurd (omega (arith, some))
first_fails test n (suc count) some none = elim (cases_Bool (test n)) [
  | inl passes ↦ absurd (let x : Some n ≡ None = sym (cond-true (test n) (Some n) (first_from test (n + 1) count) passes) ∙ none in cc)
  | inr fails ↦ fails
]

-- of three, the last isn't where the first two are and not all are
last_fails : (a b c : Bool) → a ≡ true → b ≡ true → (a && b && c) ≡ false → c ≡ false
last_fails true true c first second is = is
last_fails true false c first second is = absurd (let x = second in cc)
last_fails false b c first second is = absurd (let x = first in cc)

no_parent : (o : Option ℕ) → o ≡ None → not (is_some o) ≡ true
no_parent None is = refl
no_parent (Some m) is = absurd (let x = is in cc)

some_same : {A : Type 0} {x y : A} → Some x ≡ Some y → x ≡ y
some_same is = cc

module _ (es : List Element) (n : ℕ) (root : IsRoot row_of es n) (head : Element) (there : slice_get es n ≡ Some head) (later : (n == 0) ≡ false)
    (sound : first_broken_of row_of es n ≡ Some None) where
  known : n < length es
  known = slice_get_within es n head there

  p : IsPlaced es n
  p = placed es n known

  head_is : p.head ≡ head
  head_is =
      let left : drop n es ≡ (p.head ∷ flat p.below) ++ p.behind = ap (drop n) p.parts ∙ drop_at p.front ((p.head ∷ flat p.below) ++ p.behind) n p.count in
      some_same (sym (first_left es n p.head (flat p.below ++ p.behind) left) ∙ there)

  -- it isn't broken itself
  not_broken : is_broken_as row_of n (Some p.mark) (Some head) ≡ false
  not_broken =
      let none : Some (first_from (is_broken row_of es) n (p.mark.end - n)) ≡ Some None =
      sym (ap (option_map (λ (m : Mark). first_from (is_broken row_of es) n (m.end - n))) p.marked) ∙ sound in
      let some : 0 < p.mark.end - n = let e = p.end in omega (arith, e) in
      let fails : is_broken row_of es n ≡ false = first_fails (is_broken row_of es) n (p.mark.end - n) some (some_same none) in
      sym (ap (λ (m : Option Mark). is_broken_as row_of n m (slice_get es n)) p.marked ∙ ap (is_broken_as row_of n (Some p.mark)) there) ∙ fails

  -- so it has no bit C
  bit : head.cbit ≡ false
  bit =
      let orphan : is_orphan n p.mark (row_of head) ≡ false = (or_parts (is_loose p.mark.knot) (is_orphan n p.mark (row_of head)) not_broken).1 in
      let parent : p.mark.parent ≡ None = some_same (sym (ap (option_map (λ (m : Mark). m.parent)) p.marked) ∙ root) in
      last_fails (not (n == 0)) (not (is_some p.mark.parent)) (row_of head).cbit (ap not later) (no_parent p.mark.parent parent) orphan

  pub first_free : BeginsFree row_of (flat (tree_at n (forest row_of es)))
  first_free = subst (λ (f : Forest Element). BeginsFree row_of (flat f)) (sym p.tree) (ap (λ (e : Element). e.cbit) head_is ∙ bit)

-- a root that passes the test
taken_root : (es : List Element) (n : ℕ) → IsRoot row_of es n → (0 < n → nest row_of Whole (flat (tree_at n (forest row_of es))) ≡ tree_at n (forest row_of es))
    → is_taken es n ≡ true → IsTakenRoot es n
taken_root es n root alone is =
    let both = and_parts (not (n == 0)) (is_drawn (slice_get es n) && is_unbroken (first_broken_of row_of es n)) is in
    let more = and_parts (is_drawn (slice_get es n)) (is_unbroken (first_broken_of row_of es n)) both.1 in
    let other : (n == 0) ≡ false = not-true (n == 0) both.0 in
    let seen = drawn (slice_get es n) more.0 in
    let later : 0 < n = later_than n other in
    record {
      known = slice_get_within es n seen.0 seen.1;
      later = later;
      head = seen.0;
      there = seen.1;
      alive = seen.2;
      free = first_free es n root seen.0 seen.1 other (unbroken (first_broken_of row_of es n) more.1);
      alone = alone later;
    }

-- a root other than element 0 is taken where it is drawn and its tree is sound, by what is asked of the nesting
pub taken_asked : (es : List Element) (n : ℕ) (seen whole : Bool) → (n == 0) ≡ false
    → seen ≡ is_drawn (slice_get es n) → seen ≡ true
    → whole ≡ is_unbroken (first_broken_of row_of es n) → whole ≡ is_taken es n
taken_asked es n seen whole other is_seen is_true is_whole =
    is_whole
    ∙ sym (ap (λ (b : Bool). not b && (is_drawn (slice_get es n) && is_unbroken (first_broken_of row_of es n))) other
    ∙ ap (λ (b : Bool). b && is_unbroken (first_broken_of row_of es n)) (sym is_seen ∙ is_true))

-- each root whose tree is taken is one
pub taken_each : (es : List Element) → AllByRecursion (IsTakenRoot es) (taken es)
taken_each es =
    let P : ℕ → Type 0 = λ n. IsRoot row_of es n in
    let Q : ℕ → Type 0 = λ n. 0 < n → nest row_of Whole (flat (tree_at n (forest row_of es))) ≡ tree_at n (forest row_of es) in
    let both : AllByRecursion (λ n. P n × Q n) (roots 0 (forest row_of es)) =
    all_both P Q (λ n. P n × Q n) (λ n root alone. (root, alone)) (roots 0 (forest row_of es)) (all_roots es) (roots_alone row_of es) in
    all_so (λ n. (P n × Q n) × (is_taken es n ≡ true)) (IsTakenRoot es) (λ n is. taken_root es n is.0.0 is.0.1 is.1) (taken es)
    (filter_each (λ n. P n × Q n) (is_taken es) (roots 0 (forest row_of es)) both)
