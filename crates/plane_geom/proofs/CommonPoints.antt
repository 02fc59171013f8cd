-- Segments touch exactly where the tests pass.
use Rattle.std.proofs.Common.{◌≡◌, ℕ, ◌+◌, ◌-◌, ◌*◌, ◌<◌, ◌≤◌, arith, ap, sym, subst, ◌∙◌, ℤ, pos, negsuc, ◌+ℤ◌, ◌-ℤ◌, ◌*ℤ◌, ◌<ℤ◌, ◌≤ℤ◌, refl}
use Rattle.std.proofs.lemmas.Int.{by_lt_z, clamps}
use borrow.Author.Differences.{up, down, ints}
use Rattle.plane_geom.specs.declared.pt.Pt.{Pt}
use Rattle.plane_geom.specs.Turns.{turn}
use Rattle.plane_geom.specs.Segments.{along, Touch}
use Rattle.plane_geom.specs.Tests.{Split, Overlap, BoxesMeet}
use Rattle.plane_geom.proofs.Readings.{Reads, number, itself, plus, minus, times, same, equal}
use Rattle.plane_geom.proofs.Signs.{unsigned_sum}
use Rattle.plane_geom.proofs.Axes.{along_reads, overlaps}

-- ---- readings

pub way : (a b : ℤ) → Reads (b -ℤ a) (up b + down a) (down b + up a)
way a b = minus (itself b) (itself a)

abbrev pub more : ℤ → ℤ → ℤ → ℤ → ℕ
more a b c d = (up b + down a) * (up d + down c) + (down b + up a) * (down d + up c)

abbrev pub less : ℤ → ℤ → ℤ → ℤ → ℕ
less a b c d = (up b + down a) * (down d + up c) + (down b + up a) * (up d + down c)

pub ways : (a b c d : ℤ) → Reads ((b -ℤ a) *ℤ (d -ℤ c)) (more a b c d) (less a b c d)
ways a b c d = times (way a b) (way c d)

pub turn_reads : (a b p : Pt) → Reads (turn a b p) (more a.x b.x a.y p.y + less a.y b.y a.x p.x) (less a.x b.x a.y p.y + more a.y b.y a.x p.x)
turn_reads a b p = minus (ways a.x b.x a.y p.y) (ways a.y b.y a.x p.x)

-- ---- symmetries

-- the segments exchanged
pub exchanged : (p q r s : Pt) → Touch p q r s → Touch r s p q
exchanged p q r s t = record {
  a = t.b;
  b = t.a;
  c = t.c;
  some = t.some;
  on_first = t.on_second;
  on_second = t.on_first;
  same_x = sym t.same_x;
  same_y =
      sym t.same_y;
}

from_the_end : (c a k : ℕ) (p q : ℤ) → c ≡ a + k → along c k q p ≡ along c a p q
from_the_end c a k p q e = subst (λ (m : ℕ). along m k q p ≡ along m a p q) (sym e) (same (along_reads (a + k) k q p) (along_reads (a + k) a p q) (omega arith))

-- the ends of the first exchanged
pub turned : (p q r s : Pt) → Touch p q r s → Touch q p r s
turned p q r s t =
    let some : 0 < t.c = t.some in
    let on_first : t.a ≤ t.c = t.on_first in
    let rest : t.c ≡ t.a + (t.c - t.a) = omega arith in
    record {
      a = t.c - t.a;
      b = t.b;
      c = t.c;
      some = some;
      on_first = omega arith;
      on_second = t.on_second;
      same_x = from_the_end t.c t.a (t.c - t.a) p.x q.x rest ∙ t.same_x;
      same_y = from_the_end t.c t.a (t.c - t.a) p.y q.y rest ∙ t.same_y;
    }

-- the ends of the second exchanged
pub turned_second : (p q r s : Pt) → Touch p q r s → Touch p q s r
turned_second p q r s t = exchanged s r p q (turned r s p q (exchanged p q r s t))

-- ---- a common point passes the tests

-- on one axis, the way from p to the common point by either segment
steps : (c a b : ℕ) (p q r s : ℤ) → along c a p q ≡ along c b r s → pos c *ℤ (r -ℤ p) +ℤ pos b *ℤ (s -ℤ r) ≡ pos a *ℤ (q -ℤ p)
steps c a b p q r s e = same (plus (times (number c) (way p r)) (times (number b) (way r s))) (times (number a) (way p q))
    (omega (arith, equal (along_reads c a p q) (along_reads c b r s) e))

-- crossed with the first segment it is nothing
crossed : (a b c : ℕ) (u1 u2 v1 v2 w1 w2 : ℤ) → pos c *ℤ w1 +ℤ pos b *ℤ v1 ≡ pos a *ℤ u1 → pos c *ℤ w2 +ℤ pos b *ℤ v2 ≡ pos a *ℤ u2
    → pos c *ℤ (u1 *ℤ w2 -ℤ u2 *ℤ w1) +ℤ pos b *ℤ (u1 *ℤ v2 -ℤ u2 *ℤ v1) ≡ pos 0
crossed a b c u1 u2 v1 v2 w1 w2 e f =
    let first = equal (times (itself u2) (plus (times (number c) (itself w1)) (times (number b) (itself v1))))
    (times (itself u2) (times (number a) (itself u1))) (ap (λ (z : ℤ). u2 *ℤ z) e) in
    let second = equal (times (itself u1) (plus (times (number c) (itself w2)) (times (number b) (itself v2))))
    (times (itself u1) (times (number a) (itself u2))) (ap (λ (z : ℤ). u1 *ℤ z) f) in
    same
    (plus
    (times (number c) (minus (times (itself u1) (itself w2)) (times (itself u2) (itself w1))))
    (times (number b) (minus (times (itself u1) (itself v2)) (times (itself u2) (itself v1)))))
    (number 0)
    (omega (arith, first, second))

-- the turns to the ends of the second segment have a weighted sum of 0
weighted : (a b k : ℕ) (p q r s : Pt) → along (b + k) a p.x q.x ≡ along (b + k) b r.x s.x → along (b + k) a p.y q.y ≡ along (b + k) b r.y s.y
    → pos k *ℤ turn p q r +ℤ pos b *ℤ turn p q s ≡ pos 0
weighted a b k p q r s e f =
    let zero = crossed a b (b + k) (q.x -ℤ p.x) (q.y -ℤ p.y) (s.x -ℤ r.x) (s.y -ℤ r.y) (r.x -ℤ p.x) (r.y -ℤ p.y) (steps (b + k) a b p.x q.x r.x s.x e)
    (steps (b + k) a b p.y q.y r.y s.y f) in
    let sum = equal
    (plus
    (times (number (b + k)) (turn_reads p q r))
    (times (number b) (minus (ways p.x q.x r.y s.y) (ways p.y q.y r.x s.x))))
    (number 0) zero in
    same (plus (times (number k) (turn_reads p q r)) (times (number b) (turn_reads p q s))) (number 0) (omega (arith, sum))

-- so they split
pub splits_second : (p q r s : Pt) → Touch p q r s → Split (turn p q r) (turn p q s)
splits_second p q r s t =
    let k = t.c - t.b in
    let some : 0 < t.c = t.some in
    let within : t.b ≤ t.c = t.on_second in
    let whole : t.c ≡ t.b + k = omega arith in
    let on_x = subst (λ (m : ℕ). along m t.a p.x q.x ≡ along m t.b r.x s.x) whole t.same_x in
    let on_y = subst (λ (m : ℕ). along m t.a p.y q.y ≡ along m t.b r.y s.y) whole t.same_y in
    unsigned_sum (turn p q r) (turn p q s) k t.b (omega arith) (weighted t.a t.b k p q r s on_x on_y)

-- and the boxes meet
pub boxes : (p q r s : Pt) → Touch p q r s → BoxesMeet p q r s
boxes p q r s t = record {
  on_x = overlaps t.c t.a t.b p.x q.x r.x s.x t.some t.on_first t.on_second t.same_x;
  on_y = overlaps t.c t.a t.b p.y q.y r.y s.y t.some t.on_first t.on_second t.same_y;
}

-- ---- tests that pass give a common point

natural_of : (z : ℤ) → pos 0 ≤ℤ z → pos (up z) ≡ z
natural_of (pos n) h = refl
natural_of (negsuc n) h = absurd (omega (arith, ints))

up_mono : (m n : ℤ) → m ≤ℤ n → up m ≤ up n
up_mono (pos m) (pos n) h = omega (arith, ints)
up_mono (pos m) (negsuc n) h = absurd (omega (arith, ints))
up_mono (negsuc m) (pos n) h = omega arith
up_mono (negsuc m) (negsuc n) h = omega arith

no_more : (m n d : ℤ) → n ≡ m +ℤ d → m ≤ℤ pos 0 → n ≤ℤ d
no_more m n d e h = omega (arith, ints)

no_less : (m n d : ℤ) → n ≡ m +ℤ d → pos 0 ≤ℤ n → (pos 0 -ℤ m) ≤ℤ d
no_less m n d e h = omega (arith, ints)

-- where a number grows past another of the other sign, 0 lies between
between : (m n d : ℤ) → n ≡ m +ℤ d → pos 0 <ℤ d → Split m n → (m ≤ℤ pos 0) × (pos 0 ≤ℤ n)
between m n d e h s = (
  by_lt_z (pos 0) m (λ g. absurd (s.not_above g (omega (arith, ints)))) (λ g. g),
  by_lt_z n (pos 0) (λ g. absurd (s.not_below (omega (arith, ints)) g)) (λ g. g),
)

-- two equal numbers of no sign are 0
unsigned : (m n : ℤ) → n ≡ m → Split m n → m ≡ pos 0
unsigned m n e s =
    by_lt_z (pos 0) m
    (λ g. absurd (s.not_above g (omega (arith, ints))))
    (λ g. by_lt_z m (pos 0) (λ h. absurd (s.not_below h (omega (arith, ints)))) (λ h. omega (arith, ints)))

split_exchanged : (m n : ℤ) → Split m n → Split n m
split_exchanged m n s = record { not_above = λ h g. s.not_above g h; not_below = λ h g. s.not_below g h }

-- the ways of the two segments, crossed
abbrev spread : Pt → Pt → Pt → Pt → ℤ
spread p q r s = (q.x -ℤ p.x) *ℤ (s.y -ℤ r.y) -ℤ (q.y -ℤ p.y) *ℤ (s.x -ℤ r.x)

spread_reads : (p q r s : Pt) → Reads (spread p q r s) (more p.x q.x r.y s.y + less p.y q.y r.x s.x) (less p.x q.x r.y s.y + more p.y q.y r.x s.x)
spread_reads p q r s = minus (ways p.x q.x r.y s.y) (ways p.y q.y r.x s.x)

-- the turn to the second end is that to the first and the spread
turn_second : (p q r s : Pt) → turn p q s ≡ turn p q r +ℤ spread p q r s
turn_second p q r s = same (turn_reads p q s) (plus (turn_reads p q r) (spread_reads p q r s)) (omega arith)

turn_first : (p q r s : Pt) → turn r s p ≡ turn r s q +ℤ spread p q r s
turn_first p q r s = same (turn_reads r s p) (plus (turn_reads r s q) (spread_reads p q r s)) (omega arith)

-- the way from p to r, crossed with the second and with the first segment
over_second : (p r s : Pt) → turn r s p ≡ (r.x -ℤ p.x) *ℤ (s.y -ℤ r.y) -ℤ (r.y -ℤ p.y) *ℤ (s.x -ℤ r.x)
over_second p r s = same (turn_reads r s p) (minus (ways p.x r.x r.y s.y) (ways p.y r.y r.x s.x)) (omega arith)

over_first : (p q r : Pt) → pos 0 -ℤ turn p q r ≡ (r.x -ℤ p.x) *ℤ (q.y -ℤ p.y) -ℤ (r.y -ℤ p.y) *ℤ (q.x -ℤ p.x)
over_first p q r = same (minus (number 0) (turn_reads p q r)) (minus (ways p.x r.x p.y q.y) (ways p.y r.y p.x q.x)) (omega arith)

cross_reads : (u1 u2 v1 v2 : ℤ)
    → Reads (u1 *ℤ v2 -ℤ u2 *ℤ v1) ((up u1 * up v2 + down u1 * down v2) + (up u2 * down v1 + down u2 * up v1))
    ((up u1 * down v2 + down u1 * up v2) + (up u2 * up v1 + down u2 * down v1))
cross_reads u1 u2 v1 v2 = minus (times (itself u1) (itself v2)) (times (itself u2) (itself v1))

-- of three ways in the plane, each is weighed by the other two
weighed_first : (u1 u2 v1 v2 w1 w2 : ℤ) → (u1 *ℤ v2 -ℤ u2 *ℤ v1) *ℤ w1 +ℤ (w1 *ℤ u2 -ℤ w2 *ℤ u1) *ℤ v1 ≡ (w1 *ℤ v2 -ℤ w2 *ℤ v1) *ℤ u1
weighed_first u1 u2 v1 v2 w1 w2 =
    same
    (plus (times (cross_reads u1 u2 v1 v2) (itself w1)) (times (cross_reads w1 w2 u1 u2) (itself v1)))
    (times (cross_reads w1 w2 v1 v2) (itself u1))
    (omega arith)

weighed_second : (u1 u2 v1 v2 w1 w2 : ℤ) → (u1 *ℤ v2 -ℤ u2 *ℤ v1) *ℤ w2 +ℤ (w1 *ℤ u2 -ℤ w2 *ℤ u1) *ℤ v2 ≡ (w1 *ℤ v2 -ℤ w2 *ℤ v1) *ℤ u2
weighed_second u1 u2 v1 v2 w1 w2 =
    same
    (plus (times (cross_reads u1 u2 v1 v2) (itself w2)) (times (cross_reads w1 w2 u1 u2) (itself v2)))
    (times (cross_reads w1 w2 v1 v2) (itself u2))
    (omega arith)

-- the same by parts of c
point_on : (c a b : ℕ) (p q r s : ℤ) → pos c *ℤ (r -ℤ p) +ℤ pos b *ℤ (s -ℤ r) ≡ pos a *ℤ (q -ℤ p) → along c a p q ≡ along c b r s
point_on c a b p q r s e =
    same (along_reads c a p q) (along_reads c b r s)
    (omega (arith, equal (plus (times (number c) (way p r)) (times (number b) (way r s))) (times (number a) (way p q)) e))

-- segments whose turns split and whose ways turn to the left touch
crossing : (p q r s : Pt) → pos 0 <ℤ spread p q r s → Split (turn p q r) (turn p q s) → Split (turn r s p) (turn r s q) → Touch p q r s
crossing p q r s h f g =
    let on_first = between (turn r s q) (turn r s p) (spread p q r s) (turn_first p q r s) h (split_exchanged _ _ g) in
    let on_second = between (turn p q r) (turn p q s) (spread p q r s) (turn_second p q r s) h f in
    let a : pos (up (turn r s p)) ≡ turn r s p = natural_of (turn r s p) on_first.1 in
    let b : pos (up (pos 0 -ℤ turn p q r)) ≡ pos 0 -ℤ turn p q r = natural_of (pos 0 -ℤ turn p q r) (omega (arith, ints, on_second.0)) in
    let c : pos (up (spread p q r s)) ≡ spread p q r s = natural_of (spread p q r s) (omega (arith, ints)) in
    let u1 = q.x -ℤ p.x in
    let u2 = q.y -ℤ p.y in
    let v1 = s.x -ℤ r.x in
    let v2 = s.y -ℤ r.y in
    let w1 = r.x -ℤ p.x in
    let w2 = r.y -ℤ p.y in
    let a' = a ∙ over_second p r s in
    let b' = b ∙ over_first p q r in
    record {
      a = up (turn r s p);
      b = up (pos 0 -ℤ turn p q r);
      c = up (spread p q r s);
      some = omega (arith, ints, c);
      on_first = up_mono (turn r s p) (spread p q r s) (no_more (turn r s q) (turn r s p) (spread p q r s) (turn_first p q r s) on_first.0);
      on_second = up_mono (pos 0 -ℤ turn p q r) (spread p q r s) (no_less (turn p q r) (turn p q s) (spread p q r s) (turn_second p q r s) on_second.1);
      same_x = point_on _ _ _ p.x q.x r.x s.x (rw (a', b', c) (weighed_first u1 u2 v1 v2 w1 w2));
      same_y = point_on _ _ _ p.y q.y r.y s.y (rw (a', b', c) (weighed_second u1 u2 v1 v2 w1 w2));
    }

-- ---- segments of one line

-- segments without a turn between them, whose boxes meet
record Aligned (p q r s : Pt) : Type 0 where
  pqr : turn p q r ≡ pos 0
  pqs : turn p q s ≡ pos 0
  rsp : turn r s p ≡ pos 0
  rsq : turn r s q ≡ pos 0
  meet : BoxesMeet p q r s

turn_back : (a b p : Pt) → turn a b p ≡ pos 0 → turn b a p ≡ pos 0
turn_back a b p e = same (turn_reads b a p) (number 0) (omega (arith, equal (turn_reads a b p) (number 0) e))

aligned_exchanged : (p q r s : Pt) → Aligned p q r s → Aligned r s p q
aligned_exchanged p q r s l = record {
  pqr = l.rsp;
  pqs = l.rsq;
  rsp = l.pqr;
  rsq = l.pqs;
  meet = record { on_x = omega (arith, ints, clamps, l.meet.on_x); on_y = omega (arith, ints, clamps, l.meet.on_y) };
}

aligned_turned : (p q r s : Pt) → Aligned p q r s → Aligned q p r s
aligned_turned p q r s l = record {
  pqr = turn_back p q r l.pqr;
  pqs = turn_back p q s l.pqs;
  rsp = l.rsq;
  rsq = l.rsp;
  meet = record { on_x = omega (arith, ints, clamps, l.meet.on_x); on_y = omega (arith, ints, clamps, l.meet.on_y) };
}

-- the axes exchanged
abbrev flipped : Pt → Pt
flipped p = record { x = p.y; y = p.x }

flipped_turn : (a b p : Pt) → turn a b p ≡ pos 0 → turn (flipped a) (flipped b) (flipped p) ≡ pos 0
flipped_turn a b p e = same (turn_reads (flipped a) (flipped b) (flipped p)) (number 0) (omega (arith, equal (turn_reads a b p) (number 0) e))

aligned_flipped : (p q r s : Pt) → Aligned p q r s → Aligned (flipped p) (flipped q) (flipped r) (flipped s)
aligned_flipped p q r s l = record {
  pqr = flipped_turn p q r l.pqr;
  pqs = flipped_turn p q s l.pqs;
  rsp = flipped_turn r s p l.rsp;
  rsq = flipped_turn r s q l.rsq;
  meet = record { on_x = l.meet.on_y; on_y = l.meet.on_x };
}

touch_flipped : (p q r s : Pt) → Touch (flipped p) (flipped q) (flipped r) (flipped s) → Touch p q r s
touch_flipped p q r s t =
    record { a = t.a; b = t.b; c = t.c; some = t.some; on_first = t.on_first; on_second = t.on_second; same_x = t.same_y; same_y = t.same_x }

-- an end of the second that lies between the ends of the first
end_on : (p q r s : Pt) → p.x <ℤ q.x → p.x ≤ℤ r.x → r.x ≤ℤ q.x → turn p q r ≡ pos 0 → Touch p q r s
end_on p q r s h f g e =
    let a : pos (up (r.x -ℤ p.x)) ≡ r.x -ℤ p.x = natural_of (r.x -ℤ p.x) (omega (arith, ints)) in
    let c : pos (up (q.x -ℤ p.x)) ≡ q.x -ℤ p.x = natural_of (q.x -ℤ p.x) (omega (arith, ints)) in
    let x : (q.x -ℤ p.x) *ℤ (r.x -ℤ p.x) +ℤ pos 0 *ℤ (s.x -ℤ r.x) ≡ (r.x -ℤ p.x) *ℤ (q.x -ℤ p.x) =
    same (plus (ways p.x q.x p.x r.x) (times (number 0) (way r.x s.x))) (ways p.x r.x p.x q.x) (omega arith) in
    let y : (q.x -ℤ p.x) *ℤ (r.y -ℤ p.y) +ℤ pos 0 *ℤ (s.y -ℤ r.y) ≡ (r.x -ℤ p.x) *ℤ (q.y -ℤ p.y) =
    same (plus (ways p.x q.x p.y r.y) (times (number 0) (way r.y s.y))) (ways p.x r.x p.y q.y) (omega (arith, equal (turn_reads p q r) (number 0) e)) in
    record {
      a = up (r.x -ℤ p.x);
      b = 0;
      c = up (q.x -ℤ p.x);
      some = omega (arith, ints, c);
      on_first = up_mono (r.x -ℤ p.x) (q.x -ℤ p.x) (omega (arith, ints));
      on_second = omega arith;
      same_x = point_on _ _ 0 p.x q.x r.x s.x (rw (a, c) x);
      same_y = point_on _ _ 0 p.y q.y r.y s.y (rw (a, c) y);
    }

-- so the first segment, where it isn't level on the first axis, has a common point with the second
on_line : (p q r s : Pt) → Aligned p q r s → p.x <ℤ q.x → Touch p q r s
on_line p q r s l h =
    let over : Overlap p.x q.x r.x s.x = l.meet.on_x in
    by_lt_z r.x p.x
    (λ f. by_lt_z q.x s.x
    (λ g. exchanged r s p q (end_on r s p q (omega (arith, ints)) (omega (arith, ints)) (omega (arith, ints)) l.rsp))
    (λ g. turned_second p q s r (end_on p q s r h (omega (arith, ints, clamps, over)) g l.pqs)))
    (λ f. by_lt_z q.x r.x
    (λ g. by_lt_z s.x p.x
    (λ k. exchanged r s p q (turned s r p q (end_on s r p q (omega (arith, ints)) (omega (arith, ints)) (omega (arith, ints)) (turn_back r s p l.rsp))))
    (λ k. turned_second p q s r (end_on p q s r h k (omega (arith, ints, clamps, over)) l.pqs)))
    (λ g. end_on p q r s h f g l.pqr))

-- either segment may be the one that isn't level
unless_level : (p q r s : Pt) → Aligned p q r s → (p.x ≡ q.x → r.x ≡ s.x → Touch p q r s) → Touch p q r s
unless_level p q r s l level =
    by_lt_z p.x q.x (λ h. on_line p q r s l h) (λ f.
    by_lt_z q.x p.x (λ h. turned q p r s (on_line q p r s (aligned_turned p q r s l) h)) (λ g.
    let m = aligned_exchanged p q r s l in
    by_lt_z r.x s.x (λ h. exchanged r s p q (on_line r s p q m h)) (λ i.
    by_lt_z s.x r.x (λ h. exchanged r s p q (turned s r p q (on_line s r p q (aligned_turned r s p q m) h))) (λ k.
    level (omega (arith, ints)) (omega (arith, ints))))))

-- two points whose boxes meet
points : (p q r s : Pt) → Aligned p q r s → p.x ≡ q.x → r.x ≡ s.x → p.y ≡ q.y → r.y ≡ s.y → Touch p q r s
points p q r s l e f g h =
    let at_x : p.x ≡ r.x = omega (arith, ints, clamps, l.meet.on_x) in
    let at_y : p.y ≡ r.y = omega (arith, ints, clamps, l.meet.on_y) in
    record {
      a = 0;
      b = 0;
      c = 1;
      some = omega arith;
      on_first = omega arith;
      on_second = omega arith;
      same_x = omega (arith, ints);
      same_y = omega (arith, ints);
    }

in_line : (p q r s : Pt) → Aligned p q r s → Touch p q r s
in_line p q r s l =
    unless_level p q r s l (λ e f.
    touch_flipped p q r s (unless_level (flipped p) (flipped q) (flipped r) (flipped s) (aligned_flipped p q r s l) (λ g h.
    touch_flipped (flipped p) (flipped q) (flipped r) (flipped s) (points p q r s l e f g h))))

-- ---- the tests together

spread_turned : (p q r s : Pt) → spread p q s r ≡ pos 0 -ℤ spread p q r s
spread_turned p q r s = same (spread_reads p q s r) (minus (number 0) (spread_reads p q r s)) (omega arith)

turn_turned : (a b p : Pt) → turn b a p ≡ pos 0 -ℤ turn a b p
turn_turned a b p = same (turn_reads b a p) (minus (number 0) (turn_reads a b p)) (omega arith)

split_turned : (m n k l : ℤ) → k ≡ pos 0 -ℤ m → l ≡ pos 0 -ℤ n → Split m n → Split k l
split_turned m n k l e f s =
    record {
      not_above = λ h g. s.not_below (omega (arith, ints)) (omega (arith, ints));
      not_below = λ h g. s.not_above (omega (arith, ints)) (omega (arith, ints));
    }

-- boxes that meet and ends that split touch
pub touches : (p q r s : Pt) → BoxesMeet p q r s → Split (turn p q r) (turn p q s) → Split (turn r s p) (turn r s q) → Touch p q r s
touches p q r s meet f g =
    by_lt_z (pos 0) (spread p q r s) (λ h. crossing p q r s h f g) (λ i.
    by_lt_z (spread p q r s) (pos 0)
    (λ h. turned_second p q s r (crossing p q s r
    (omega (arith, ints, spread_turned p q r s))
    (split_exchanged _ _ f)
    (split_turned (turn r s p) (turn r s q) (turn s r p) (turn s r q) (turn_turned r s p) (turn_turned r s q) g)))
    (λ k.
    let none : spread p q r s ≡ pos 0 = omega (arith, ints) in
    let same_first : turn p q s ≡ turn p q r = omega (arith, ints, turn_second p q r s, none) in
    let same_second : turn r s q ≡ turn r s p = omega (arith, ints, turn_first p q r s, none) in
    let first : turn p q r ≡ pos 0 = unsigned (turn p q r) (turn p q s) same_first f in
    let second : turn r s p ≡ pos 0 = unsigned (turn r s p) (turn r s q) same_second g in
    in_line p q r s (record { pqr = first; pqs = same_first ∙ first; rsp = second; rsq = same_second ∙ second; meet = meet })))
