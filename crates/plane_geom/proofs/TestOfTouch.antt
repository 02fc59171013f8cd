-- The test of two segments is that they have a common point.
use Rattle.std.proofs.Common.{◌≡◌, Bool, true, false, not, ◌&&◌, ◌||◌, IsTrue, ◌↔◌, inl, inr, refl, sym, ◌∙◌, arith, ℤ, pos, ◌<ℤ◌, int_lt, nat_eq, w8, of_z}
use Rattle.std.specs.Int.{int_signum}
use Rattle.std.proofs.lemmas.Bool.{true≢false, and_parts, and_from, or_cases}
use borrow.Author.Differences.{ints}
use Rattle.plane_geom.specs.declared.pt.Pt.{Pt}
use Rattle.plane_geom.specs.Turns.{turn}
use Rattle.plane_geom.specs.Segments.{Touch}
use Rattle.plane_geom.specs.Tests.{Split, BoxesMeet}
use Rattle.plane_geom.specs.Touches.{intervals_meet, boxes_meet, on_one_side, touches}
use Rattle.plane_geom.proofs.Signs.{zero_splits, unequal_splits}
use Rattle.plane_geom.proofs.Axes.{compared}
use Rattle.plane_geom.proofs.CommonPoints as touching

-- two tests of one fact are one test
pub same_test : {P : Type 0} (a b : Bool) → (IsTrue a ↔ P) → (IsTrue b ↔ P) → a ≡ b
same_test true true f g = refl
same_test true false f g = absurd (true≢false (sym (g.1 (f.0 refl))))
same_test false true f g = absurd (true≢false (sym (f.1 (g.0 refl))))
same_test false false f g = refl

pub below : (a b : ℤ) → (IsTrue (int_lt a b) → a <ℤ b) × (a <ℤ b → IsTrue (int_lt a b))
below a b = (λ t. omega (arith, ints), λ h. grind (arith, ints))

pub boxes_tell : (p q r s : Pt) → IsTrue (boxes_meet p q r s) ↔ BoxesMeet p q r s
unfolding boxes_meet
boxes_tell p q r s = (
  λ t. let both = and_parts (intervals_meet p.x q.x r.x s.x) (intervals_meet p.y q.y r.y s.y) t in
      record { on_x = (compared _ _).0 both.0; on_y = (compared _ _).0 both.1 },
  λ b. and_from (intervals_meet p.x q.x r.x s.x) (intervals_meet p.y q.y r.y s.y) ((compared _ _).1 b.on_x) ((compared _ _).1 b.on_y),
)

-- a test whose converse is refuted
refuted : (t : Bool) → (t ≡ true → ⊥) → IsTrue (not t)
refuted true f = absurd (f refl)
refuted false f = refl

parted : (s t : Bool) → IsTrue (not (s || t)) → (s ≡ false) × (t ≡ false)
parted true t e = absurd (true≢false (sym e))
parted false true e = absurd (true≢false (sym e))
parted false false e = (refl, refl)

above : (m n : ℤ) → pos 0 <ℤ m → pos 0 <ℤ n → (int_lt (pos 0) m && int_lt (pos 0) n) ≡ true
above m n h g = and_from (int_lt (pos 0) m) (int_lt (pos 0) n) ((below _ _).1 h) ((below _ _).1 g)

under : (m n : ℤ) → m <ℤ pos 0 → n <ℤ pos 0 → (int_lt m (pos 0) && int_lt n (pos 0)) ≡ true
under m n h g = and_from (int_lt m (pos 0)) (int_lt n (pos 0)) ((below _ _).1 h) ((below _ _).1 g)

-- numbers that split are not on one side
split_parts : (m n : ℤ) → Split m n → on_one_side m n ≡ true → ⊥
unfolding on_one_side
split_parts m n s e =
    elim (or_cases (int_lt (pos 0) m && int_lt (pos 0) n) (int_lt m (pos 0) && int_lt n (pos 0)) e) [
      | inl a ↦ let both = and_parts (int_lt (pos 0) m) (int_lt (pos 0) n) a in s.not_above ((below _ _).0 both.0) ((below _ _).0 both.1)
      | inr b ↦ let both = and_parts (int_lt m (pos 0)) (int_lt n (pos 0)) b in s.not_below ((below _ _).0 both.0) ((below _ _).0 both.1)
    ]

pub sides_tell : (m n : ℤ) → IsTrue (not (on_one_side m n)) ↔ Split m n
unfolding on_one_side
sides_tell m n = (
  λ t. let off = parted (int_lt (pos 0) m && int_lt (pos 0) n) (int_lt m (pos 0) && int_lt n (pos 0)) t in
      record {
        not_above = λ h g. true≢false (sym (above m n h g) ∙ off.0);
        not_below = λ h g. true≢false (sym (under m n h g) ∙ off.1);
      },
  λ s. refuted _ (split_parts m n s),
)

pub tells : (p q r s : Pt) → IsTrue (touches p q r s) ↔ Touch p q r s
unfolding touches
tells p q r s =
    let at_first = sides_tell (turn p q r) (turn p q s) in
    let at_second = sides_tell (turn r s p) (turn r s q) in (
      λ t. let tests = and_parts (boxes_meet p q r s && not (on_one_side (turn p q r) (turn p q s))) _ t in
          let first = and_parts (boxes_meet p q r s) _ tests.0 in
          touching.touches p q r s ((boxes_tell p q r s).0 first.0) (at_first.0 first.1) (at_second.0 tests.1),
      λ t. and_from (boxes_meet p q r s && not (on_one_side (turn p q r) (turn p q s))) _
          (and_from (boxes_meet p q r s) _ ((boxes_tell p q r s).1 (touching.boxes p q r s t)) (at_first.1 (touching.splits_second p q r s t)))
          (at_second.1 (touching.splits_second r s p q (touching.exchanged p q r s t))),
    )

-- ---- signs kept in a byte

unnegated : (a b : Bool) → not a ≡ not b → a ≡ b
unnegated true true e = refl
unnegated true false e = absurd (true≢false (sym e))
unnegated false true e = absurd (true≢false e)
unnegated false false e = refl

-- two signs of which the first isn't 0 are equal where their numbers lie on one side
pub equal_signs : (m n r t : ℤ) → r ≡ int_signum m → t ≡ int_signum n → (of_z w8 r ≡ 0 → ⊥) → nat_eq (of_z w8 r) (of_z w8 t) ≡ on_one_side m n
equal_signs m n r t e f g = unnegated _ _ (same_test _ _ (unequal_splits m n r t e f g) (sides_tell m n))

-- and a sign of 0 is that of a number on no side
pub no_sign : (m n r : ℤ) → r ≡ int_signum m → of_z w8 r ≡ 0 → false ≡ on_one_side m n
no_sign m n r e f = unnegated _ _ (same_test _ _ (let h = zero_splits m n r e f in (λ t. h.0 (rw f refl), λ s. refl)) (sides_tell m n))
