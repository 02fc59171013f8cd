-- Boxes of headers while elements are read back: each header's is the first when its members have been read.
use Rattle.std.proofs.Common.{◌≡◌, ℕ, ◌<◌, ◌≤◌, List, [], ◌∷◌, ◌++◌, Option, Some, None, Bool, true, false, cond, refl, ap, ◌∙◌, arith}
use Rattle.std.specs.Prelude.{◌==◌, nat_lt}
use Rattle.std.specs.List.{AllByRecursion}
use Rattle.std.proofs.lemmas.Bool.{cond-true, cond-false, eq-eqb, ne_eqb, lt-ltb, le-ltb}
use Rattle.range_code.specs.declared.Box3.{Box3}
use Rattle.range_code.specs.Ranges.{join_of}
use Rattle.dgn_audit.specs.declared.finding.Finding.{Finding}
use Rattle.dgn_audit.specs.declared.open_box.OpenBox.{OpenBox}
use Rattle.dgn_audit.specs.Hulls.{hull_join}
use Rattle.dgn_audit.specs.OpenBoxes.{box_for, without, with_hull, with_hulls, past}
use Rattle.dgn_audit.proofs.Boxes.{join_assoc}

-- the first box is that of a header before n
abbrev pub TopBelow : ℕ → List OpenBox → Type 0
TopBelow n [] = Unit {0}
TopBelow n (o ∷ os) = o.header < n

-- a header, if there is one, is before n
abbrev pub IsBefore : ℕ → Option ℕ → Type 0
IsBefore n None = Unit {0}
IsBefore n (Some p) = p < n

pub top_on : (n m : ℕ) (os : List OpenBox) → n ≤ m → TopBelow n os → TopBelow m os
top_on n m [] more below = tt
top_on n m (o ∷ os) more below = omega (arith, below, more)

pub before_on : (n m : ℕ) (p : Option ℕ) → n ≤ m → IsBefore n p → IsBefore m p
before_on n m None more before = tt
before_on n m (Some p) more before = omega (arith, before, more)

-- a box of these
abbrev opened : ℕ → Box3 → OpenBox
opened p hull = record { header = p; hull = hull }

-- where the first box is one of an earlier header, n has none, and nothing is taken away
pub none_for : (n : ℕ) (os : List OpenBox) → TopBelow n os → box_for n os ≡ None
none_for n [] below = refl
none_for n (o ∷ os) below = cond-false (o.header == n) (Some o.hull) None (ne_eqb o.header n (omega (arith, below)))

pub same_without : (n : ℕ) (os : List OpenBox) → TopBelow n os → without n os ≡ os
same_without n [] below = refl
same_without n (o ∷ os) below = cond-false (o.header == n) os (o ∷ os) (ne_eqb o.header n (omega (arith, below)))

top_with : (n p : ℕ) (hull : Box3) (os : List OpenBox) → p < n → TopBelow n (with_hull p hull os)
top_with n p hull [] before = before
top_with n p hull (o ∷ os) before = by_same (o.header == p) refl
  where
    by_same : (t : Bool) → o.header == p ≡ t → TopBelow n (cond t (opened p (join_of hull o.hull) ∷ os) (opened p hull ∷ o ∷ os))
    by_same true is = before
    by_same false is = before

-- the first box stays one of an earlier header
pub top_hulls : (n : ℕ) (p : Option ℕ) (hull : Option Box3) (os : List OpenBox) → IsBefore n p → TopBelow n os → TopBelow n (with_hulls p hull os)
top_hulls n None hull os before below = below
top_hulls n (Some p) None os before below = below
top_hulls n (Some p) (Some hull) os before below = top_with n p hull os before

-- a header before whose members no box of it was open
new_box : (n : ℕ) (hull : Box3) (os : List OpenBox) → TopBelow n os → with_hull n hull os ≡ opened n hull ∷ os
new_box n hull [] below = refl
new_box n hull (o ∷ os) below =
    cond-false (o.header == n) (opened n (join_of hull o.hull) ∷ os) (opened n hull ∷ o ∷ os) (ne_eqb o.header n (omega (arith, below)))

-- has then that of its members, and where it is taken away the others are left
pub members_box : (n : ℕ) (hull : Option Box3) (os : List OpenBox) → TopBelow n os → box_for n (with_hulls (Some n) hull os) ≡ hull
members_box n None os below = none_for n os below
members_box n (Some hull) os below =
    ap (box_for n) (new_box n hull os below) ∙ cond-true (n == n) (Some hull) None (eq-eqb n n refl)

pub members_without : (n : ℕ) (hull : Option Box3) (os : List OpenBox) → TopBelow n os → without n (with_hulls (Some n) hull os) ≡ os
members_without n None os below = same_without n os below
members_without n (Some hull) os below =
    ap (without n) (new_box n hull os below) ∙ cond-true (n == n) os (opened n hull ∷ os) (eq-eqb n n refl)

with_two : (p : ℕ) (a b : Box3) (os : List OpenBox) → with_hull p a (with_hull p b os) ≡ with_hull p (join_of a b) os
with_two p a b [] = cond-true (p == p) (opened p (join_of a b) ∷ []) (opened p a ∷ opened p b ∷ []) (eq-eqb p p refl)
with_two p a b (o ∷ os) = by_same (o.header == p)
  where
    by_same : (t : Bool) → with_hull p a (cond t (opened p (join_of b o.hull) ∷ os) (opened p b ∷ o ∷ os))
        ≡ cond t (opened p (join_of (join_of a b) o.hull) ∷ os) (opened p (join_of a b) ∷ o ∷ os)
    by_same true =
        cond-true (p == p) (opened p (join_of a (join_of b o.hull)) ∷ os) (opened p a ∷ opened p (join_of b o.hull) ∷ os) (eq-eqb p p refl)
        ∙ ap (λ (h : Box3). opened p h ∷ os) (join_assoc a b o.hull)
    by_same false = cond-true (p == p) (opened p (join_of a b) ∷ o ∷ os) (opened p a ∷ opened p b ∷ o ∷ os) (eq-eqb p p refl)

-- hulls that are joined to a header's box one after the other are joined together
pub hulls_joined : (p : Option ℕ) (a b : Option Box3) (os : List OpenBox) → with_hulls p a (with_hulls p b os) ≡ with_hulls p (hull_join a b) os
hulls_joined None a b os = refl
hulls_joined (Some p) None b os = refl
hulls_joined (Some p) (Some a) None os = refl
hulls_joined (Some p) (Some a) (Some b) os = with_two p a b os

-- what is told of numbers below an end is passed
pub passed : (end : ℕ) (xs ys : List Finding) → AllByRecursion (λ (f : Finding). f.number < end) xs → AllByRecursion (λ (f : Finding). end ≤ f.number) ys
    → past end (xs ++ ys) ≡ ys
passed end [] [] low high = refl
passed end [] (f ∷ fs) low high = cond-false (nat_lt f.number end) (past end fs) (f ∷ fs) (le-ltb f.number end high.0)
passed end (f ∷ fs) ys low high =
    cond-true (nat_lt f.number end) (past end (fs ++ ys)) (f ∷ (fs ++ ys)) (lt-ltb f.number end low.0) ∙ passed end fs ys low.1 high
