-- Boxes that lie apart from a segment, or beside its line: no segment within them touches it.
use Rattle.std.proofs.Common.{◌≡◌, ◌⊎◌, inl, inr, ℕ, suc, ◌+◌, ◌*◌, ◌≤◌, Bool, true, false, ◌&&◌, ◌||◌, refl, arith, mul-le-mul_left, ℤ, pos, negsuc, ◌-ℤ◌}
use Rattle.std.proofs.Common.{◌*ℤ◌, ◌<ℤ◌, ◌≤ℤ◌, int_lt}
use Rattle.std.proofs.lemmas.Int.{clamps}
use Rattle.std.proofs.lemmas.Bool.{and_parts, or_cases, cases_Bool}
use borrow.Author.Differences.{up, down, ints}
use Rattle.plane_geom.specs.declared.pt.Pt.{Pt}
use Rattle.plane_geom.specs.Turns.{turn}
use Rattle.plane_geom.specs.Tests.{Overlap, BoxesMeet}
use Rattle.plane_geom.specs.Touches.{boxes_meet, on_one_side, touches}
use Rattle.plane_geom.specs.Boxes.{IsInBox, low_right, high_left, lies_apart, lies_beside}
use Rattle.plane_geom.proofs.Readings.{Reads, number, itself, times}
use Rattle.plane_geom.proofs.TestOfTouch.{below, boxes_tell}

-- ---- a product of a fixed factor and a number between two others lies between its values at these

scaled_up : (k : ℕ) (a b : ℤ) → a ≤ℤ b → (pos k *ℤ a) ≤ℤ (pos k *ℤ b)
scaled_up k a b h =
    let first = times (number k) (itself a) in
    let second = times (number k) (itself b) in
    let grows : k * (up a + down b) ≤ k * (up b + down a) = mul-le-mul_left k (omega (arith, ints)) in
    omega (arith, ints, first.reads, second.reads)

negative : (k : ℕ) → Reads (negsuc k) 0 (suc k)
negative k = record { reads = omega arith }

scaled_down : (k : ℕ) (a b : ℤ) → a ≤ℤ b → (negsuc k *ℤ b) ≤ℤ (negsuc k *ℤ a)
scaled_down k a b h =
    let first = times (negative k) (itself a) in
    let second = times (negative k) (itself b) in
    let grows : suc k * (up a + down b) ≤ suc k * (up b + down a) = mul-le-mul_left (suc k) (omega (arith, ints)) in
    omega (arith, ints, first.reads, second.reads)

abbrev Follows : ℤ → ℤ → ℤ → ℤ → Type 0
Follows k a b c = ((k *ℤ a) ≤ℤ (k *ℤ b)) × ((k *ℤ b) ≤ℤ (k *ℤ c))

scaled : (k a b c : ℤ) → a ≤ℤ b → b ≤ℤ c → Follows k a b c ⊎ Follows k c b a
scaled (pos k) a b c h g = inl (scaled_up k a b h, scaled_up k b c g)
scaled (negsuc k) a b c h g = inr (scaled_down k b c g, scaled_down k a b h)

-- ---- the turn to a point of a box lies between the turns to two corners

abbrev Between : ℤ → ℤ → ℤ → Type 0
Between m t n = (m ≤ℤ t) × (t ≤ℤ n)

less_apart : (a b c d m n : ℤ) → a ≤ℤ m → m ≤ℤ b → c ≤ℤ n → n ≤ℤ d → Between (a -ℤ d) (m -ℤ n) (b -ℤ c)
less_apart a b c d m n f g h i = (omega (arith, ints), omega (arith, ints))

from_place : (a b c : ℤ) → a ≤ℤ b → (a -ℤ c) ≤ℤ (b -ℤ c)
from_place a b c h = omega (arith, ints)

-- between the low and the high corner, or between the other two
between_corners : (low high r s p : Pt) → IsInBox low high p →
    (Between (turn r s low) (turn r s p) (turn r s high) ⊎ Between (turn r s high) (turn r s p) (turn r s low))
    ⊎ (Between (turn r s (low_right low high)) (turn r s p) (turn r s (high_left low high))
    ⊎ Between (turn r s (high_left low high)) (turn r s p) (turn r s (low_right low high)))
between_corners low high r s p i =
    elim (scaled (s.x -ℤ r.x) (low.y -ℤ r.y) (p.y -ℤ r.y) (high.y -ℤ r.y) (from_place _ _ _ i.below) (from_place _ _ _ i.above)) [
      | inl a ↦ elim (scaled (s.y -ℤ r.y) (low.x -ℤ r.x) (p.x -ℤ r.x) (high.x -ℤ r.x) (from_place _ _ _ i.left) (from_place _ _ _ i.right)) [
        | inl b ↦ inr (inl (less_apart _ _ _ _ _ _ a.0 a.1 b.0 b.1))
        | inr b ↦ inl (inl (less_apart _ _ _ _ _ _ a.0 a.1 b.0 b.1))
      ]
      | inr a ↦ elim (scaled (s.y -ℤ r.y) (low.x -ℤ r.x) (p.x -ℤ r.x) (high.x -ℤ r.x) (from_place _ _ _ i.left) (from_place _ _ _ i.right)) [
        | inl b ↦ inl (inr (less_apart _ _ _ _ _ _ a.0 a.1 b.0 b.1))
        | inr b ↦ inr (inr (less_apart _ _ _ _ _ _ a.0 a.1 b.0 b.1))
      ]
    ]

-- ---- so a point of a box beside a line lies on that side

abbrev Above : ℤ → ℤ → ℤ → ℤ → Type 0
Above a b c d = (pos 0 <ℤ a) × (pos 0 <ℤ b) × (pos 0 <ℤ c) × (pos 0 <ℤ d)

abbrev Below : ℤ → ℤ → ℤ → ℤ → Type 0
Below a b c d = (a <ℤ pos 0) × (b <ℤ pos 0) × (c <ℤ pos 0) × (d <ℤ pos 0)

sides : (m n : ℤ) → on_one_side m n ≡ true → ((pos 0 <ℤ m) × (pos 0 <ℤ n)) ⊎ ((m <ℤ pos 0) × (n <ℤ pos 0))
unfolding on_one_side
sides m n e =
    elim (or_cases (int_lt (pos 0) m && int_lt (pos 0) n) (int_lt m (pos 0) && int_lt n (pos 0)) e) [
      | inl a ↦ let both = and_parts (int_lt (pos 0) m) (int_lt (pos 0) n) a in inl ((below _ _).0 both.0, (below _ _).0 both.1)
      | inr b ↦ let both = and_parts (int_lt m (pos 0)) (int_lt n (pos 0)) b in inr ((below _ _).0 both.0, (below _ _).0 both.1)
    ]

or_right : (x : Bool) → (x || true) ≡ true
or_right true = refl
or_right false = refl

one_side : (m n : ℤ) → ((pos 0 <ℤ m) × (pos 0 <ℤ n)) ⊎ ((m <ℤ pos 0) × (n <ℤ pos 0)) → on_one_side m n ≡ true
unfolding on_one_side
one_side m n (inl h) = rw ((below _ _).1 h.0, (below _ _).1 h.1) refl
one_side m n (inr h) = rw ((below m (pos 0)).1 h.0, (below n (pos 0)).1 h.1) (or_right _)

abbrev Corners : Pt → Pt → Pt → Pt → Type 0
Corners low high r s =
    Above (turn r s low) (turn r s high) (turn r s (low_right low high)) (turn r s (high_left low high))
    ⊎ Below (turn r s low) (turn r s high) (turn r s (low_right low high)) (turn r s (high_left low high))

corners : (a b c d : ℤ) → on_one_side a b ≡ true → on_one_side a c ≡ true → on_one_side a d ≡ true → Above a b c d ⊎ Below a b c d
corners a b c d e f g =
    elim (sides a b e) [
      | inl h ↦ elim (sides a c f) [
        | inl k ↦ elim (sides a d g) [
          | inl l ↦ inl (h.0, h.1, k.1, l.1)
          | inr l ↦ absurd (omega (arith, ints))
        ]
        | inr k ↦ absurd (omega (arith, ints))
      ]
      | inr h ↦ elim (sides a c f) [
        | inl k ↦ absurd (omega (arith, ints))
        | inr k ↦ elim (sides a d g) [
          | inl l ↦ absurd (omega (arith, ints))
          | inr l ↦ inr (h.0, h.1, k.1, l.1)
        ]
      ]
    ]

beside : (low high r s : Pt) → lies_beside low high r s ≡ true → Corners low high r s
unfolding lies_beside
beside low high r s e =
    let all = and_parts (on_one_side (turn r s low) (turn r s high) && on_one_side (turn r s low) (turn r s (low_right low high))) _ e in
    let first = and_parts (on_one_side (turn r s low) (turn r s high)) _ all.0 in
    corners (turn r s low) (turn r s high) (turn r s (low_right low high)) (turn r s (high_left low high)) first.0 first.1 all.1

above_between : (a b c d t : ℤ) → Above a b c d → (Between a t b ⊎ Between b t a) ⊎ (Between c t d ⊎ Between d t c) → pos 0 <ℤ t
above_between a b c d t h (inl (inl g)) = omega (arith, ints)
above_between a b c d t h (inl (inr g)) = omega (arith, ints)
above_between a b c d t h (inr (inl g)) = omega (arith, ints)
above_between a b c d t h (inr (inr g)) = omega (arith, ints)

below_between : (a b c d t : ℤ) → Below a b c d → (Between a t b ⊎ Between b t a) ⊎ (Between c t d ⊎ Between d t c) → t <ℤ pos 0
below_between a b c d t h (inl (inl g)) = omega (arith, ints)
below_between a b c d t h (inl (inr g)) = omega (arith, ints)
below_between a b c d t h (inr (inl g)) = omega (arith, ints)
below_between a b c d t h (inr (inr g)) = omega (arith, ints)

both_beside : (low high r s p q : Pt) → lies_beside low high r s ≡ true → IsInBox low high p → IsInBox low high q → on_one_side (turn r s p) (turn r s q) ≡ true
both_beside low high r s p q e i j =
    elim (beside low high r s e) [
      | inl h ↦ one_side _ _ (inl (above_between _ _ _ _ _ h (between_corners low high r s p i), above_between _ _ _ _ _ h (between_corners low high r s q j)))
      | inr h ↦ one_side _ _ (inr (below_between _ _ _ _ _ h (between_corners low high r s p i), below_between _ _ _ _ _ h (between_corners low high r s q j)))
    ]

and_none : (x : Bool) → (x && false) ≡ false
and_none true = refl
and_none false = refl

pub untouched : (p q r s : Pt) → on_one_side (turn r s p) (turn r s q) ≡ true → touches p q r s ≡ false
unfolding touches
untouched p q r s e = rw e (and_none _)

-- no segment within a box touches one beside whose line the box lies
pub beside_untouched : (low high r s p q : Pt) → lies_beside low high r s ≡ true → IsInBox low high p → IsInBox low high q → touches p q r s ≡ false
beside_untouched low high r s p q e i j = untouched p q r s (both_beside low high r s p q e i j)

-- ---- segments within boxes that lie apart

-- segments whose boxes don't meet don't touch
pub unmet_untouched : (p q r s : Pt) → boxes_meet p q r s ≡ false → touches p q r s ≡ false
unfolding touches
unmet_untouched p q r s e = rw e refl

apart : (low high other_low other_high : Pt) → lies_apart low high other_low other_high ≡ true → ((high.x <ℤ other_low.x) ⊎ (other_high.x <ℤ low.x))
    ⊎ ((high.y <ℤ other_low.y) ⊎ (other_high.y <ℤ low.y))
unfolding lies_apart
apart low high l h e =
    elim (or_cases (int_lt high.x l.x || int_lt h.x low.x) (int_lt high.y l.y || int_lt h.y low.y) e) [
      | inl f ↦ elim (or_cases (int_lt high.x l.x) (int_lt h.x low.x) f) [
        | inl g ↦ inl (inl ((below _ _).0 g))
        | inr g ↦ inl (inr ((below _ _).0 g))
      ]
      | inr f ↦ elim (or_cases (int_lt high.y l.y) (int_lt h.y low.y) f) [
        | inl g ↦ inr (inl ((below _ _).0 g))
        | inr g ↦ inr (inr ((below _ _).0 g))
      ]
    ]

unmet : (p q r s : Pt) → (BoxesMeet p q r s → ⊥) → boxes_meet p q r s ≡ false
unmet p q r s f =
    elim (cases_Bool (boxes_meet p q r s)) [
      | inl t ↦ absurd (f ((boxes_tell p q r s).0 t))
      | inr e ↦ e
    ]

-- no segment within a box touches one within a box apart from it
pub apart_untouched : (low high other_low other_high p q r s : Pt) → lies_apart low high other_low other_high ≡ true → IsInBox low high p
    → IsInBox low high q → IsInBox other_low other_high r → IsInBox other_low other_high s → touches p q r s ≡ false
apart_untouched low high l h p q r s e i j k m =
    unmet_untouched p q r s (unmet p q r s (λ b.
    let on_x : Overlap p.x q.x r.x s.x = b.on_x in
    let on_y : Overlap p.y q.y r.y s.y = b.on_y in
    elim (apart low high l h e) [
      | inl f ↦ elim f [
        | inl g ↦ omega (arith, ints, clamps, i.right, j.right, k.left, m.left)
        | inr g ↦ omega (arith, ints, clamps, i.left, j.left, k.right, m.right)
      ]
      | inr f ↦ elim f [
        | inl g ↦ omega (arith, ints, clamps, i.above, j.above, k.below, m.below)
        | inr g ↦ omega (arith, ints, clamps, i.below, j.below, k.above, m.above)
      ]
    ]))

-- a point of one of them isn't one of the other
pub apart_points : (low high other_low other_high p : Pt) → lies_apart low high other_low other_high ≡ true → IsInBox low high p
    → IsInBox other_low other_high p → ⊥
apart_points low high l h p e i j =
    elim (apart low high l h e) [
      | inl f ↦ elim f [
        | inl g ↦ omega (arith, ints, i.right, j.left)
        | inr g ↦ omega (arith, ints, i.left, j.right)
      ]
      | inr f ↦ elim f [
        | inl g ↦ omega (arith, ints, i.above, j.below)
        | inr g ↦ omega (arith, ints, i.below, j.above)
      ]
    ]
