-- A fence that is an upright rectangle: what has bounds strictly inside of its own misses all its edges and begins within it.
use Rattle.std.proofs.Common.{◌≡◌, ◌⊎◌, inl, inr, ℕ, ◌+◌, ◌-◌, ◌*◌, ◌%◌, ◌==◌, ◌<◌, ◌≤◌, Bool, true, false, ◌&&◌, ◌||◌, Option, Some, cond, List, [], ◌∷◌}
use Rattle.std.proofs.Common.{refl, sym, subst, ◌∙◌, ap, arith, ℤ, ◌-ℤ◌, ◌*ℤ◌, ◌<ℤ◌, ◌≤ℤ◌, int_lt, int_le}
use Rattle.std.specs.Int.{int_min, int_max}
use Rattle.std.specs.List.{count_by}
use Rattle.std.specs.Ordering.{int_eq}
use Rattle.std.proofs.Math.Nat.{one-le-mul}
use Rattle.std.proofs.lemmas.Int.{by_lt_z, clamps}
use Rattle.std.proofs.lemmas.Bool.{and_parts, or_cases}
use Rattle.std.proofs.lemmas.Bool.Decides.{Decides-int_eq}
use borrow.Author.Differences.{up, down, ints}
use Rattle.plane_geom.specs.declared.pt.Pt.{Pt}
use Rattle.plane_geom.specs.Polygons.{leans, passes, is_within}
use Rattle.plane_geom.specs.Boxes.{lies_apart}
use Rattle.plane_geom.proofs.Readings.{Reads, itself, times}
use Rattle.plane_geom.proofs.Axes.{compared}
use Rattle.plane_geom.proofs.TestOfTouch.{below}
use Rattle.dgn_fence.specs.declared.bounds.Bounds.{Bounds}
use Rattle.dgn_fence.specs.declared.outline.Outline.{Outline}
use Rattle.dgn_fence.specs.Limits.{at, grown, bounds_of, is_apart, is_enclosed, misses, stands, is_upright}
use Rattle.dgn_fence.specs.Outlines.{misses_all, begins_by_bounds}
use Rattle.dgn_fence.proofs.BoundsHold.{IsIn, same_some}

-- ---- the sides of a rectangle

-- on one axis, the numbers from l to h lie strictly between a and c
abbrev Between : ℤ → ℤ → ℤ → ℤ → Type 0
Between l h a c = ((a <ℤ l) × (h <ℤ c)) ⊎ ((c <ℤ l) × (h <ℤ a))

turned : (l h a c : ℤ) → Between l h a c → Between l h c a
turned l h a c (inl i) = inr i
turned l h a c (inr i) = inl i

moved : (l h a b c d : ℤ) → a ≡ b → c ≡ d → Between l h a c → Between l h b d
moved l h a b c d e f (inl i) = inl (omega (arith, ints, i.0, e), omega (arith, ints, i.1, f))
moved l h a b c d e f (inr i) = inr (omega (arith, ints, i.0, f), omega (arith, ints, i.1, e))

-- so does each of them
one_between : (l h p a c : ℤ) → l ≤ℤ p → p ≤ℤ h → Between l h a c → Between p p a c
one_between l h p a c f g (inl i) = inl (omega (arith, ints, i.0), omega (arith, ints, i.1))
one_between l h p a c f g (inr i) = inr (omega (arith, ints, i.0), omega (arith, ints, i.1))

-- a standing side from a to b, a level one to c, a standing one to d and a level one back
record Stands (a b c d : Pt) : Type 0 where
  first : a.x ≡ b.x
  second : b.y ≡ c.y
  third : c.x ≡ d.x
  fourth : d.y ≡ a.y

it_stands : (a b c d : Pt) → stands a b c d ≡ true → Stands a b c d
it_stands a b c d e =
    let one = and_parts (int_eq a.x b.x) (int_eq b.y c.y && (int_eq c.x d.x && int_eq d.y a.y)) e in
    let two = and_parts (int_eq b.y c.y) (int_eq c.x d.x && int_eq d.y a.y) one.1 in
    let three = and_parts (int_eq c.x d.x) (int_eq d.y a.y) two.1 in
    record {
      first = (Decides-int_eq _ _).0 one.0;
      second = (Decides-int_eq _ _).0 two.0;
      third = (Decides-int_eq _ _).0 three.0;
      fourth = (Decides-int_eq _ _).0 three.1;
    }

-- bounds that lie strictly between its sides
record Clear (o : Bounds) (a c : Pt) : Type 0 where
  across : Between o.low.x o.high.x a.x c.x
  along : Between o.low.y o.high.y a.y c.y

-- ---- bounds that lie strictly between the sides miss them

first_true : (a b : Bool) → a ≡ true → (a || b) ≡ true
first_true a b e = rw e refl

second_true : (a b : Bool) → b ≡ true → (a || b) ≡ true
second_true true b e = refl
second_true false b e = e

both_less : (r s l : ℤ) → r ≡ s → r <ℤ l → int_lt (int_max r s) l ≡ true
both_less r s l e i = (below (int_max r s) l).1 (omega (arith, ints, clamps, i, e))

both_greater : (r s h : ℤ) → r ≡ s → h <ℤ r → int_lt h (int_min r s) ≡ true
both_greater r s h e i = (below h (int_min r s)).1 (omega (arith, ints, clamps, i, e))

standing_missed : (o : Bounds) (r s : Pt) (x : ℤ) → r.x ≡ s.x → Between o.low.x o.high.x r.x x → misses o r s ≡ true
unfolding lies_apart
standing_missed o r s x e (inl i) = first_true _ _ (first_true _ _ (second_true (int_lt o.high.x (int_min r.x s.x)) _ (both_less r.x s.x o.low.x e i.0)))
standing_missed o r s x e (inr i) = first_true _ _ (first_true _ _ (first_true _ _ (both_greater r.x s.x o.high.x e i.1)))

level_missed : (o : Bounds) (r s : Pt) (y : ℤ) → r.y ≡ s.y → Between o.low.y o.high.y r.y y → misses o r s ≡ true
unfolding lies_apart
level_missed o r s y e (inl i) = first_true _ _ (second_true _ _ (second_true (int_lt o.high.y (int_min r.y s.y)) _ (both_less r.y s.y o.low.y e i.0)))
level_missed o r s y e (inr i) = first_true _ _ (second_true _ _ (first_true _ _ (both_greater r.y s.y o.high.y e i.1)))

record Missed (o : Bounds) (a b c d : Pt) : Type 0 where
  first : misses o a b ≡ true
  second : misses o b c ≡ true
  third : misses o c d ≡ true
  fourth : misses o d a ≡ true

sides_missed : (o : Bounds) (a b c d : Pt) → Stands a b c d → Clear o a c → Missed o a b c d
sides_missed o a b c d s i = record {
  first = standing_missed o a b c.x s.first i.across;
  second = level_missed o b c a.y s.second (moved _ _ c.y b.y a.y a.y (sym s.second) refl (turned _ _ _ _ i.along));
  third = standing_missed o c d a.x s.third (turned _ _ _ _ i.across);
  fourth = level_missed o d a c.y s.fourth (moved _ _ a.y d.y c.y c.y (sym s.fourth) refl i.along);
}

-- ---- a point strictly between the sides is within

gap : ℤ → ℤ → ℕ
gap x y = (up y + down x) - (up x + down y)

rising : (x y : ℤ) → x <ℤ y → Reads (y -ℤ x) (gap x y) 0
unfolding gap
rising x y h = record { reads = omega (arith, ints, h) }

falling : (x y : ℤ) → x <ℤ y → Reads (x -ℤ y) 0 (gap x y)
unfolding gap
falling x y h = record { reads = omega (arith, ints, h) }

some_gap : (x y : ℤ) → x <ℤ y → 0 < gap x y
unfolding gap
some_gap x y h = omega (arith, ints, h)

none : (x y : ℤ) → x ≡ y → Reads (y -ℤ x) 0 0
none x y e = record { reads = omega (arith, ints, e) }

-- p lies to the left of a line up to the right of it, and not to the left of one to its left
leans_to : (p u v : Pt) → u.x ≡ v.x → u.y <ℤ v.y → p.x <ℤ u.x → leans p u v ≡ true
unfolding leans
leans_to p u v e rise left =
    let first = times (falling p.x u.x left) (rising u.y v.y rise) in
    let second = times (none u.x v.x e) (itself (p.y -ℤ u.y)) in
    let product : 1 ≤ gap p.x u.x * gap u.y v.y = one-le-mul (some_gap p.x u.x left) (some_gap u.y v.y rise) in
    (below ((p.x -ℤ u.x) *ℤ (v.y -ℤ u.y)) ((v.x -ℤ u.x) *ℤ (p.y -ℤ u.y))).1 (omega (arith, ints, first.reads, second.reads))

unless_below : (a b : ℤ) → b ≤ℤ a → int_lt a b ≡ false
unless_below a b h = grind (arith, ints)

over : (a b : ℤ) → b <ℤ a → int_le a b ≡ false
over a b h = grind (arith, ints)

leans_off : (p u v : Pt) → u.x ≡ v.x → u.y <ℤ v.y → u.x <ℤ p.x → leans p u v ≡ false
unfolding leans
leans_off p u v e rise right =
    let first = times (rising u.x p.x right) (rising u.y v.y rise) in
    let second = times (none u.x v.x e) (itself (p.y -ℤ u.y)) in
    unless_below ((p.x -ℤ u.x) *ℤ (v.y -ℤ u.y)) ((v.x -ℤ u.x) *ℤ (p.y -ℤ u.y)) (omega (arith, ints, first.reads, second.reads))

risen : (p u v : Pt) (t : Bool) → u.y <ℤ p.y → p.y <ℤ v.y → leans p u v ≡ t → passes p (u, v) ≡ t
risen p u v true f g e = rw ((compared u.y p.y).1 (omega (arith, ints, f)), (below p.y v.y).1 g, e) refl
risen p u v false f g e = rw ((compared u.y p.y).1 (omega (arith, ints, f)), (below p.y v.y).1 g, e, over v.y p.y g) refl

fallen : (p u v : Pt) (t : Bool) → v.y <ℤ p.y → p.y <ℤ u.y → leans p v u ≡ t → passes p (u, v) ≡ t
fallen p u v t f g e = rw (over u.y p.y g, (compared v.y p.y).1 (omega (arith, ints, f)), (below p.y u.y).1 g) e

between_ends : (a p c : ℤ) → a <ℤ p → p <ℤ c → a <ℤ c
between_ends a p c f g = omega (arith, ints, f, g)

standing_passes : (p u v : Pt) → u.x ≡ v.x → Between p.y p.y u.y v.y → p.x <ℤ u.x → passes p (u, v) ≡ true
standing_passes p u v e (inl i) left = risen p u v true i.0 i.1 (leans_to p u v e (between_ends _ _ _ i.0 i.1) left)
standing_passes p u v e (inr i) left = fallen p u v true i.0 i.1 (leans_to p v u (sym e) (between_ends _ _ _ i.0 i.1) (omega (arith, ints, e, left)))

standing_passes_not : (p u v : Pt) → u.x ≡ v.x → Between p.y p.y u.y v.y → u.x <ℤ p.x → passes p (u, v) ≡ false
standing_passes_not p u v e (inl i) right = risen p u v false i.0 i.1 (leans_off p u v e (between_ends _ _ _ i.0 i.1) right)
standing_passes_not p u v e (inr i) right = fallen p u v false i.0 i.1 (leans_off p v u (sym e) (between_ends _ _ _ i.0 i.1) (omega (arith, ints, e, right)))

-- both ends above p, or both below it
level_passes_not : (p u v : Pt) (y : ℤ) → u.y ≡ v.y → Between p.y p.y u.y y → passes p (u, v) ≡ false
level_passes_not p u v y e (inr i) = rw (over u.y p.y i.1, over v.y p.y (omega (arith, ints, i.1, e))) refl
level_passes_not p u v y e (inl i) =
    rw (
      (compared u.y p.y).1 (omega (arith, ints, i.0)),
      (compared v.y p.y).1 (omega (arith, ints, i.0, e)),
      unless_below p.y v.y (omega (arith, ints, i.0, e)),
      unless_below p.y u.y (omega (arith, ints, i.0)),
    ) refl

abbrev bit : Bool → ℕ
bit b = cond b 1 0

abbrev odd : Bool → Bool → Bool → Bool → Bool
odd i j k l = (0 + bit i + bit j + bit k + bit l) % 2 == 1

counted : {A : Type 0} (test : A → Bool) (w x y z : A) (i j k l : Bool) → test w ≡ i → test x ≡ j → test y ≡ k → test z ≡ l
    → (count_by test (w ∷ x ∷ y ∷ z ∷ []) % 2 == 1) ≡ odd i j k l
counted test w x y z i j k l e f g h = rw (e, f, g, h) refl

-- which of the sides pass: exactly one of those that stand
record Pass (p a b c d : Pt) (t : Bool) : Type 0 where
  first : passes p (a, b) ≡ t
  second : passes p (b, c) ≡ false
  third : passes p (c, d) ≡ cond t false true
  fourth : passes p (d, a) ≡ false

one_passes : (p a b c d : Pt) → Stands a b c d → Clear (at p) a c → Pass p a b c d true ⊎ Pass p a b c d false
one_passes p a b c d s i =
    let to_b : Between p.y p.y a.y b.y = moved _ _ a.y a.y c.y b.y refl (sym s.second) i.along in
    let to_d : Between p.y p.y c.y d.y = moved _ _ c.y c.y a.y d.y refl (sym s.fourth) (turned _ _ _ _ i.along) in
    let from_b : Between p.y p.y b.y a.y = turned _ _ _ _ to_b in
    let from_d : Between p.y p.y d.y c.y = turned _ _ _ _ to_d in
    elim i.across [
      | inl x ↦ inr (record {
        first = standing_passes_not p a b s.first to_b x.0;
        second = level_passes_not p b c a.y s.second from_b;
        third = standing_passes p c d s.third to_d x.1;
        fourth = level_passes_not p d a c.y s.fourth from_d;
      })
      | inr x ↦ inl (record {
        first = standing_passes p a b s.first to_b x.1;
        second = level_passes_not p b c a.y s.second from_b;
        third = standing_passes_not p c d s.third to_d x.0;
        fourth = level_passes_not p d a c.y s.fourth from_d;
      })
    ]

-- ---- the bounds of four corners, two of which share a number on an axis with the one behind them

low_high : (a b c d l h : ℤ) → a ≡ b → c ≡ d → int_min (int_min (int_min a b) c) d <ℤ l → h <ℤ int_max (int_max (int_max a b) c) d → Between l h a c
low_high a b c d l h e f low high =
    by_lt_z a c
    (λ rise. inl (omega (arith, ints, clamps, rise, low, e, f), omega (arith, ints, clamps, rise, high, e, f)))
    (λ fall. inr (omega (arith, ints, clamps, fall, low, e, f), omega (arith, ints, clamps, fall, high, e, f)))

high_low : (a b c d l h : ℤ) → b ≡ c → d ≡ a → int_min (int_min (int_min a b) c) d <ℤ l → h <ℤ int_max (int_max (int_max a b) c) d → Between l h a c
high_low a b c d l h e f low high =
    by_lt_z a c
    (λ rise. inl (omega (arith, ints, clamps, rise, low, e, f), omega (arith, ints, clamps, rise, high, e, f)))
    (λ fall. inr (omega (arith, ints, clamps, fall, low, e, f), omega (arith, ints, clamps, fall, high, e, f)))

record Enclosed (o b : Bounds) : Type 0 where
  left : b.low.x <ℤ o.low.x
  right : o.high.x <ℤ b.high.x
  bottom : b.low.y <ℤ o.low.y
  top : o.high.y <ℤ b.high.y

it_is_enclosed : (o b : Bounds) → is_enclosed o b ≡ true → Enclosed o b
it_is_enclosed o b e =
    let both = and_parts (int_lt b.low.x o.low.x && int_lt o.high.x b.high.x) (int_lt b.low.y o.low.y && int_lt o.high.y b.high.y) e in
    let x = and_parts (int_lt b.low.x o.low.x) (int_lt o.high.x b.high.x) both.0 in
    let y = and_parts (int_lt b.low.y o.low.y) (int_lt o.high.y b.high.y) both.1 in
    record { left = (below _ _).0 x.0; right = (below _ _).0 x.1; bottom = (below _ _).0 y.0; top = (below _ _).0 y.1 }

clear_first : (o b : Bounds) (p q r s : Pt) → bounds_of (p ∷ q ∷ r ∷ s ∷ []) ≡ Some b → Stands p q r s → Enclosed o b → Clear o p r
clear_first o b p q r s is t i =
    let in' : Enclosed o (grown (grown (grown (at p) q) r) s) = subst (λ (a : Bounds). Enclosed o a) (sym (same_some _ _ is)) i in
    record {
      across = low_high p.x q.x r.x s.x o.low.x o.high.x t.first t.third in'.left in'.right;
      along = high_low p.y q.y r.y s.y o.low.y o.high.y t.second t.fourth in'.bottom in'.top;
    }

clear_second : (o b : Bounds) (p q r s : Pt) → bounds_of (p ∷ q ∷ r ∷ s ∷ []) ≡ Some b → Stands q r s p → Enclosed o b → Clear o q s
clear_second o b p q r s is t i =
    let in' : Enclosed o (grown (grown (grown (at p) q) r) s) = subst (λ (a : Bounds). Enclosed o a) (sym (same_some _ _ is)) i in
    let x = high_low p.x q.x r.x s.x o.low.x o.high.x t.first t.third in'.left in'.right in
    let y = low_high p.y q.y r.y s.y o.low.y o.high.y t.fourth t.second in'.bottom in'.top in
    record {
      across = turned _ _ _ _ (moved _ _ p.x s.x r.x q.x (sym t.third) (sym t.first) x);
      along = moved _ _ p.y q.y r.y s.y t.fourth t.second y;
    }

-- ---- the two together

at_point : (o : Bounds) (p a c : Pt) → IsIn o p → Clear o a c → Clear (at p) a c
at_point o p a c i t = record { across = one_between _ _ p.x a.x c.x i.left i.right t.across; along = one_between _ _ p.y a.y c.y i.below i.above t.along }

record Inside (o : Outline) (fence : List Pt) : Type 0 where
  missed : misses_all o.around fence ≡ true
  within : is_within o.first fence ≡ true

inside_first : (o : Outline) (p q r s : Pt) → Stands p q r s → Clear o.around p r → IsIn o.around o.first → Inside o (p ∷ q ∷ r ∷ s ∷ [])
inside_first o p q r s t i begun =
    let m = sides_missed o.around p q r s t i in
    record {
      missed = rw (m.first, m.second, m.third, m.fourth) refl;
      within = elim (one_passes o.first p q r s t (at_point o.around o.first p r begun i)) [
        | inl w ↦ counted (passes o.first) (p, q) (q, r) (r, s) (s, p) true false false false w.first w.second w.third w.fourth
        | inr w ↦ counted (passes o.first) (p, q) (q, r) (r, s) (s, p) false false true false w.first w.second w.third w.fourth
      ];
    }

inside_second : (o : Outline) (p q r s : Pt) → Stands q r s p → Clear o.around q s → IsIn o.around o.first → Inside o (p ∷ q ∷ r ∷ s ∷ [])
inside_second o p q r s t i begun =
    let m = sides_missed o.around q r s p t i in
    record {
      missed = rw (m.first, m.second, m.third, m.fourth) refl;
      within = elim (one_passes o.first q r s p t (at_point o.around o.first q s begun i)) [
        | inl w ↦ counted (passes o.first) (p, q) (q, r) (r, s) (s, p) false true false false w.fourth w.first w.second w.third
        | inr w ↦ counted (passes o.first) (p, q) (q, r) (r, s) (s, p) false false false true w.fourth w.first w.second w.third
      ];
    }

inside : (o : Outline) (fence : List Pt) (b : Bounds) → bounds_of fence ≡ Some b → is_upright fence ≡ true → is_enclosed o.around b ≡ true
    → IsIn o.around o.first → Inside o fence
inside o (p ∷ q ∷ r ∷ s ∷ []) b is up' e begun =
    elim (or_cases (stands p q r s) (stands q r s p) up') [
      | inl f ↦ inside_first o p q r s (it_stands p q r s f) (clear_first o.around b p q r s is (it_stands p q r s f) (it_is_enclosed o.around b e)) begun
      | inr g ↦ inside_second o p q r s (it_stands q r s p g) (clear_second o.around b p q r s is (it_stands q r s p g) (it_is_enclosed o.around b e)) begun
    ]
inside o other b is up' e begun = absurd cc

-- so it is told, where it doesn't lie apart, that it begins within
pub begins_inside : (o : Outline) (fence : List Pt) (b : Bounds) → bounds_of fence ≡ Some b → is_upright fence ≡ true → is_enclosed o.around b ≡ true
    → IsIn o.around o.first → is_apart o.around b ≡ false
    → begins_by_bounds (bounds_of fence) fence o ≡ Some true
begins_inside o fence b is up' e begun near =
    let i = inside o fence b is up' e begun in
    ap (λ (x : Option Bounds). begins_by_bounds x fence o) is ∙ rw (near, i.missed, i.within) refl
