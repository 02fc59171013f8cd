-- The roots from one number on: behind a root follow those from its tree's end on, and there the next root stands.
use Rattle.std.proofs.Common.{◌≡◌, ℕ, ◌+◌, ◌<◌, ◌≤◌, List, [], ◌∷◌, length, refl, sym, ap, ◌∙◌, subst, arith, length-append, inl, inr}
use Rattle.std.specs.Prelude.{Some, None, nat_le, filter}
use Rattle.std.specs.List.{AllByRecursion}
use Rattle.std.proofs.lemmas.Bool.{cond-true, cond-false, le-leb, lt-leb, cases_lt}
use Rattle.dgn_drawing.specs.Element.{Element}
use Rattle.dgn_drawing.specs.Rows.{row_of}
use Rattle.dgn_drawing.specs.Nesting.{Knot, Forest, NoTree, Tree, flat, forest}
use Rattle.dgn_drawing.specs.Numbering.{Mark, end_of, mark_of}
use Rattle.dgn_drawing.specs.Shown.{roots}
use Rattle.nest_tree.proofs.NestingSteps.{flat-forest}
use Rattle.level_view.proofs.ItemsBack.{Stands, head_marked, below_stands, behind_stands, all_stand}
use Rattle.level_view.proofs.TreeItems.{parent_at, not_root}
use Rattle.level_view.proofs.RootItems.{roots_from}

-- the numbers that are k or greater
abbrev pub from_on : ℕ → List ℕ → List ℕ
from_on k ns = filter (λ r. nat_le k r) ns

-- all of them, where each is
from_all : (k : ℕ) (ns : List ℕ) → AllByRecursion (λ r. k ≤ r) ns → from_on k ns ≡ ns
from_all k [] each = refl
from_all k (n ∷ ns) each = cond-true (nat_le k n) (n ∷ from_on k ns) (from_on k ns) (le-leb k n each.0) ∙ ap (λ (xs : List ℕ). n ∷ xs) (from_all k ns each.1)

-- without the first, where that is smaller
from_next : (k n : ℕ) (ns : List ℕ) → n < k → from_on k (n ∷ ns) ≡ from_on k ns
from_next k n ns small = cond-false (nat_le k n) (n ∷ from_on k ns) (from_on k ns) (lt-leb k n small)

-- of trees that stand among all elements from number n on: behind this root stand the roots from its tree's end on, and
-- the first element there, if these trees have one, is a root
pub record GoesOn (es : List Element) (f : Forest Element) (n root : ℕ) : Type 0 where
  pub mark : Mark
  pub marked : mark_of row_of es root ≡ Some mark
  pub ordered : root < mark.end
  pub within : mark.end ≤ n + length (flat f)
  pub are : from_on root (roots n f) ≡ root ∷ from_on mark.end (roots n f)
  pub next : mark.end < n + length (flat f) → parent_at (mark_of row_of es mark.end) ≡ Some None

module _ (es : List Element) where
  -- the first element of trees that stand as roots is one
  first_root : (f : Forest Element) (n : ℕ) → Stands es f n 0 None → 0 < length (flat f) → parent_at (mark_of row_of es n) ≡ Some None
  first_root NoTree n stands some = absurd (omega arith)
  first_root (Tree knot e below behind) n stands some = ap parent_at (head_marked es knot e below behind n 0 None stands)

  first_goes_on : (knot : Knot) (e : Element) (below behind : Forest Element) (n : ℕ) → Stands es (Tree knot e below behind) n 0 None
      → GoesOn es (Tree knot e below behind) n n
  first_goes_on knot e below behind n stands =
      let end : ℕ = end_of n below in
      let later : AllByRecursion (λ r. end_of n below ≤ r) (roots (end_of n below) behind) =
      roots_from (end_of n below) (end_of n below) behind (omega arith) in
      let all : AllByRecursion (λ r. n ≤ r) (roots (end_of n below) behind) = roots_from n (end_of n below) behind (omega arith) in
      record {
        mark = record { knot = knot; depth = 0; parent = None; end = end_of n below };
        marked = head_marked es knot e below behind n 0 None stands;
        ordered = omega arith;
        within = omega (arith, length-append (flat below) (flat behind));
        are =
            cond-true (nat_le n n) (n ∷ from_on n (roots (end_of n below) behind)) (from_on n (roots (end_of n below) behind)) (le-leb n n (omega arith))
            ∙ ap (λ (xs : List ℕ). n ∷ xs)
            (from_all n (roots (end_of n below) behind) all ∙ sym (from_all (end_of n below) (roots (end_of n below) behind) later)
            ∙ sym (from_next (end_of n below) n (roots (end_of n below) behind) (omega arith)));
        next = λ more. first_root behind (end_of n below) (behind_stands es knot e below behind n 0 None stands)
            (omega (arith, more, length-append (flat below) (flat behind)));
      }

  goes_on : (f : Forest Element) (n root : ℕ) → Stands es f n 0 None → n ≤ root → root < n + length (flat f)
      → parent_at (mark_of row_of es root) ≡ Some None → GoesOn es f n root
  goes_on NoTree n root stands low high is_root = absurd (omega arith)
  goes_on (Tree knot e below behind) n root stands low high is_root =
      elim (cases_lt n root) [
        | inr here ↦
            let same : n ≡ root = omega arith in
            subst (λ (k : ℕ). GoesOn es (Tree knot e below behind) n k) same (first_goes_on knot e below behind n stands)
        | inl after ↦ elim (cases_lt root (end_of n below)) [
          | inl inner ↦
              let has = not_root es below (n + 1) 1 n root (below_stands es knot e below behind n 0 None stands) (omega arith) (omega arith) in
              absurd (let one = has.1 in let two = is_root in cc)
          | inr outer ↦
              let rest = goes_on behind (end_of n below) root (behind_stands es knot e below behind n 0 None stands) outer
              (omega (arith, length-append (flat below) (flat behind))) is_root in
              let ordered = rest.ordered in
              let within = rest.within in
              record {
                mark = rest.mark;
                marked = rest.marked;
                ordered = rest.ordered;
                within = omega (arith, length-append (flat below) (flat behind));
                are = from_next root n (roots (end_of n below) behind) after ∙ rest.are
                    ∙ ap (λ (xs : List ℕ). root ∷ xs) (sym (from_next rest.mark.end n (roots (end_of n below) behind) (omega arith)));
                next = λ more. rest.next (omega (arith, more, length-append (flat below) (flat behind)));
              }
        ]
      ]

  -- of all elements
  pub root_goes_on : (root : ℕ) → root < length es → parent_at (mark_of row_of es root) ≡ Some None → GoesOn es (forest row_of es) 0 root
  root_goes_on root known is_root =
      goes_on (forest row_of es) 0 root (all_stand es) (omega arith) (omega (arith, ap (length {A = Element}) (flat-forest row_of es))) is_root

  -- element 0 is a root
  pub zero_root : 0 < length es → parent_at (mark_of row_of es 0) ≡ Some None
  zero_root some = first_root (forest row_of es) 0 (all_stand es) (omega (arith, ap (length {A = Element}) (flat-forest row_of es)))

  -- and all roots are those from it on
  pub from_zero : from_on 0 (roots 0 (forest row_of es)) ≡ roots 0 (forest row_of es)
  from_zero = from_all 0 (roots 0 (forest row_of es)) (roots_from 0 0 (forest row_of es) (omega arith))

-- no roots stand behind the last element
roots_end : {A : Type 0} (f : Forest A) (n k : ℕ) → n + length (flat f) ≤ k → from_on k (roots n f) ≡ []
roots_end NoTree n k long = refl
roots_end (Tree knot h below behind) n k long =
    from_next k n (roots (end_of n below) behind) (omega arith) ∙ roots_end behind (end_of n below) k (omega (arith, length-append (flat below) (flat behind)))

pub from_end : (es : List Element) (k : ℕ) → length es ≤ k → from_on k (roots 0 (forest row_of es)) ≡ []
from_end es k long = roots_end (forest row_of es) 0 k (omega (arith, ap (length {A = Element}) (flat-forest row_of es)))
