-- Every finding is fitted in its tree.
use Rattle.std.proofs.Common.{◌≡◌, ℕ, zero, suc, ◌+◌, ◌-◌, ◌<◌, ◌≤◌, List, [], ◌∷◌, ◌++◌, length, Option, Some, None, Bool, true, false, cond, refl, sym}
use Rattle.std.proofs.Common.{ap, ◌∙◌, subst, arith}
use Rattle.std.specs.Prelude.{nat_lt, not, Contains}
use Rattle.std.specs.List.{AllByRecursion}
use Rattle.std.proofs.lemmas.List.{append-nil}
use Rattle.std.proofs.lemmas.List.Elements.{All-from_recursion, Contains-append_left, Contains-append_right}
use Rattle.std.proofs.lemmas.Bool.{cond-true, cond-false, cond_both, lt-ltb, le-ltb}
use Rattle.range_code.specs.declared.Box3.{Box3}
use Rattle.dgn_drawing.specs.Element.{Element}
use Rattle.dgn_drawing.specs.Rows.{row_of}
use Rattle.dgn_drawing.specs.Nesting.{Knot, Forest, NoTree, Tree, flat, forest}
use Rattle.dgn_drawing.specs.Numbering.{end_of, headers_in, headers_of, first_or}
use Rattle.nest_tree.proofs.NestingSteps.{flat-forest}
use Rattle.edit_ops.specs.Trees.{count_in, tree_at}
use Rattle.edit_ops.proofs.EachLive.{each_both}
use Rattle.edit_ops.proofs.EditedBytes.{all_so, all_both}
use Rattle.dgn_audit.specs.declared.reported.Reported.TheVariants as keeps
use Rattle.dgn_audit.specs.declared.finding.Finding.{Finding}
use Rattle.dgn_audit.specs.Hulls.{stored_of, hull_in, tree_hull, hull_of}
use Rattle.dgn_audit.specs.Findings.{same_box, is_fitted, finding_of, finding_as, findings_in, findings}
use Rattle.dgn_audit.specs.Laws.{IsFittedInItsTree, FindingsAreFitted}
use Rattle.dgn_audit.proofs.TreeHulls.{finding_each}
use Rattle.dgn_audit.proofs.FindingsEnd.{stored_other, same_none}

-- what is among the first of two lists, or among the second, is among both
both_among : (a b xs ys : List Finding) → AllByRecursion (Contains a) xs → AllByRecursion (Contains b) ys → AllByRecursion (Contains (a ++ b)) (xs ++ ys)
both_among a b xs ys one two =
    each_both (Contains (a ++ b)) xs ys (all_so (Contains a) (Contains (a ++ b)) (Contains-append_left a b) xs one)
    (all_so (Contains b) (Contains (a ++ b)) (Contains-append_right a b) ys two)

-- so it is of a head that isn't marked deleted and of what stands below it
headed_among : (t : Bool) (a b xs ys : List Finding) → AllByRecursion (Contains a) xs → AllByRecursion (Contains b) ys
    → AllByRecursion (Contains (cond t [] (a ++ b))) (cond t [] (xs ++ ys))
headed_among true a b xs ys one two = tt
headed_among false a b xs ys one two = both_among a b xs ys one two

module _ (dim : ℕ) where
  -- an element whose stored range isn't its hull can be fitted
  differing_fitted : (knot : Knot) (n : ℕ) (e : Element) (members hull : Option Box3) → tree_hull dim knot e members ≡ hull
      → AllByRecursion (Contains (finding_as keeps.Fitted dim knot n e hull)) (finding_as keeps.Differing dim knot n e hull)
  differing_fitted knot n e members None is = tt
  differing_fitted knot n e members (Some r) is = by_fitted (is_fitted knot e.kind) refl
    where
      alive : (t : Bool) → cond t None (hull_in dim knot e.kind e.body members) ≡ Some r → hull_in dim knot e.kind e.body members ≡ Some r
      alive true some = absurd (let x = some in cc)
      alive false some = some

      by_fitted : (t : Bool) → is_fitted knot e.kind ≡ t
          → AllByRecursion (Contains (cond t (finding_of dim n e r ∷ []) [])) (finding_as keeps.Differing dim knot n e (Some r))
      by_fitted true can =
          cond_both (not (same_box (stored_of dim e.body) r)) (finding_of dim n e r ∷ []) [] (AllByRecursion (Contains (finding_of dim n e r ∷ [])))
          (λ _. ((0, omega arith, refl), tt)) (λ _. tt)
      by_fitted false cannot =
          let same : stored_of dim e.body ≡ r = stored_other dim knot e.kind e.body members r (alive e.deleted is) cannot in
          subst (AllByRecursion (Contains [])) (sym (same_none dim knot n e r same)) tt

  -- so the findings of trees are among their fitted elements
  each_fitted : (f : Forest Element) (n : ℕ) → AllByRecursion (Contains (findings_in keeps.Fitted dim n f)) (findings_in keeps.Differing dim n f)
  each_fitted NoTree n = tt
  each_fitted (Tree knot e below behind) n =
      both_among _ _ _ _
      (headed_among e.deleted _ _ _ _ (differing_fitted knot n e (hull_of dim below) (tree_hull dim knot e (hull_of dim below)) refl)
      (each_fitted below (n + 1)))
      (each_fitted behind (end_of n below))

  -- an element of trees that are numbered from k on is fitted in that one of them whose root is its own
  record IsInTree (k : ℕ) (f : Forest Element) (x : Finding) : Type 0 where
    rank : ℕ
    number : x.number ≡ k + rank
    place : ℕ
    root : ℕ
    is : root ≡ k + place
    at : first_or x.number (headers_in rank k f) ≡ root
    among : Contains (findings_in keeps.Fitted dim root (tree_at place f)) x

  module _ (knot : Knot) (e : Element) (below behind : Forest Element) (k : ℕ) where
    -- the root of each element of the first tree is its head
    head_root : (j m : ℕ) → m ≡ k + j → j ≤ length (flat below) → first_or m (headers_in j k (Tree knot e below behind)) ≡ k
    head_root zero m is few = omega (arith, is)
    head_root (suc j) m is few =
        ap (first_or m) (cond-true (nat_lt j (length (flat below))) (k ∷ headers_in j (k + 1) below)
        (headers_in (j - length (flat below)) (end_of k below) behind) (lt-ltb j (length (flat below)) (omega (arith, few))))

    -- what is told of the first tree's elements is so of elements of the trees, and so is what is told of those behind it
    in_first : (x : Finding) → (k ≤ x.number) × (x.number < end_of k below) → Contains (findings_in keeps.Fitted dim k (Tree knot e below NoTree)) x
        → IsInTree k (Tree knot e below behind) x
    in_first x bounds among =
        let from = bounds.0 in
        let to = bounds.1 in
        let number : x.number ≡ k + (x.number - k) = omega (arith, from) in
        record {
          rank = x.number - k;
          number = number;
          place = 0;
          root = k;
          is = omega arith;
          at = head_root (x.number - k) x.number number (omega (arith, to));
          among = among;
        }

    in_later : (x : Finding) → IsInTree (end_of k below) behind x → IsInTree k (Tree knot e below behind) x
    in_later x p =
        let late : (j : ℕ) → nat_lt (length (flat below) + j) (length (flat below)) ≡ false =
        λ j. le-ltb (length (flat below) + j) (length (flat below)) (omega arith) in
        let left : (j : ℕ) → length (flat below) + j - length (flat below) ≡ j = λ j. omega arith in
        record {
          rank = suc (length (flat below) + p.rank);
          number = omega (arith, p.number);
          place = suc (length (flat below) + p.place);
          root = p.root;
          is = omega (arith, p.is);
          at = ap (first_or x.number)
              (cond-false (nat_lt (length (flat below) + p.rank) (length (flat below))) (k ∷ headers_in (length (flat below) + p.rank) (k + 1) below)
              (headers_in (length (flat below) + p.rank - length (flat below)) (end_of k below) behind) (late p.rank)
              ∙ ap (λ (j : ℕ). headers_in j (end_of k below) behind) (left p.rank))
              ∙ p.at;
          among = subst (λ (f : Forest Element). Contains (findings_in keeps.Fitted dim p.root f) x)
              (sym (cond-false (nat_lt (length (flat below) + p.place) (count_in below)) (tree_at (length (flat below) + p.place) below)
              (tree_at (length (flat below) + p.place - count_in below) behind) (late p.place)
              ∙ ap (λ (j : ℕ). tree_at j behind) (left p.place)))
              p.among;
        }

  -- the findings of a head and of what stands below it
  abbrev first_finding : Knot → Element → Forest Element → ℕ → List Finding
  first_finding knot e below k =
      cond e.deleted [] (finding_as keeps.Differing dim knot k e (tree_hull dim knot e (hull_of dim below)) ++ findings_in keeps.Differing dim (k + 1) below)

  -- so is each finding of trees
  all_in_trees : (f : Forest Element) (k : ℕ) → AllByRecursion (IsInTree k f) (findings_in keeps.Differing dim k f)
  all_in_trees NoTree k = tt
  all_in_trees (Tree knot e below behind) k =
      let size : length (flat below ++ []) ≡ length (flat below) = ap (length {A = Element}) (append-nil (flat below)) in
      let bounds : AllByRecursion (λ (x : Finding). (k ≤ x.number) × (x.number < end_of k below)) (first_finding knot e below k) =
      subst (AllByRecursion (λ (x : Finding). (k ≤ x.number) × (x.number < end_of k below))) (append-nil (first_finding knot e below k))
      (finding_each (λ m. (k ≤ m) × (m < end_of k below)) keeps.Differing dim k (Tree knot e below NoTree) (λ m from to. (from, omega (arith, to, size)))) in
      let among : AllByRecursion (Contains (findings_in keeps.Fitted dim k (Tree knot e below NoTree))) (first_finding knot e below k) =
      subst (AllByRecursion (Contains (findings_in keeps.Fitted dim k (Tree knot e below NoTree)))) (append-nil (first_finding knot e below k))
      (each_fitted (Tree knot e below NoTree) k) in
      each_both (IsInTree k (Tree knot e below behind)) (first_finding knot e below k) (findings_in keeps.Differing dim (end_of k below) behind)
      (all_both (λ (x : Finding). (k ≤ x.number) × (x.number < end_of k below)) (Contains (findings_in keeps.Fitted dim k (Tree knot e below NoTree)))
      (IsInTree k (Tree knot e below behind)) (in_first knot e below behind k)
      (first_finding knot e below k) bounds among)
      (all_so (IsInTree (end_of k below) behind) (IsInTree k (Tree knot e below behind)) (in_later knot e below behind k)
      (findings_in keeps.Differing dim (end_of k below) behind) (all_in_trees behind (end_of k below)))

-- and each finding of a drawing, in the tree of its root
pub findings_fitted : FindingsAreFitted
findings_fitted dim es =
    let known : AllByRecursion (λ (x : Finding). x.number < length es) (findings dim es) =
    finding_each (λ m. m < length es) keeps.Differing dim 0 (forest row_of es)
    (λ m from to. omega (arith, to, ap (length {A = Element}) (flat-forest row_of es))) in
    All-from_recursion (IsFittedInItsTree dim es) (findings dim es)
    (all_both (λ (x : Finding). x.number < length es) (IsInTree dim 0 (forest row_of es)) (IsFittedInItsTree dim es) of_root (findings dim es) known
    (all_in_trees dim (forest row_of es) 0))
  where
    of_root : (x : Finding) → x.number < length es → IsInTree dim 0 (forest row_of es) x → IsFittedInItsTree dim es x
    of_root x early p =
        let rank : x.number ≡ p.rank = omega (arith, p.number) in
        let place : p.place ≡ p.root = omega (arith, p.is) in
        record {
          root = p.root;
          at = cond-true (nat_lt x.number (length es)) (Some (first_or x.number (headers_of row_of es x.number))) None (lt-ltb x.number (length es) early)
              ∙ ap Some (ap (λ (j : ℕ). first_or x.number (headers_in j 0 (forest row_of es))) rank ∙ p.at);
          among = subst (λ (j : ℕ). Contains (findings_in keeps.Fitted dim p.root (tree_at j (forest row_of es))) x) place p.among;
        }
