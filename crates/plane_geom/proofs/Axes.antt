-- Intervals and parts of segments on one axis.
use Rattle.std.proofs.Common.{◌≡◌, ℕ, ◌+◌, ◌-◌, ◌*◌, ◌<◌, ◌≤◌, Bool, false, true≢false, IsTrue, arith, sym, ◌∙◌, mul-le-mul_left, ℤ, ◌<ℤ◌, ◌≤ℤ◌, int_le}
use Rattle.std.proofs.Common.{SFits, w32, of_z, to_z, to_z-of_z}
use Rattle.std.specs.Int.{int_min, int_max}
use Rattle.std.proofs.lemmas.Int.{by_lt_z, clamps}
use borrow.Author.Differences.{up, down, ints}
use Rattle.plane_geom.specs.Segments.{along}
use Rattle.plane_geom.specs.Tests.{Overlap}
use Rattle.plane_geom.proofs.Readings.{Reads, number, itself, plus, minus, times, again, equal}

-- a test that failed, of what would follow
pub blocked : {A B : Type 0} (t : Bool) → t ≡ false → (A → IsTrue t) → (B → A) → (IsTrue false → B) × (B → IsTrue false)
blocked t e f g = (λ h. absurd (true≢false (sym h)), λ y. sym e ∙ f (g y))

pub compared : (a b : ℤ) → (IsTrue (int_le a b) → a ≤ℤ b) × (a ≤ℤ b → IsTrue (int_le a b))
compared a b = (λ t. omega (arith, ints), λ h. grind (arith, ints))

-- the test of two numbers that fit is the order of what they are
pub at_most : (low high a b : ℤ) → SFits w32 low → SFits w32 high → low ≡ a → high ≡ b
    → (IsTrue (int_le (to_z w32 (of_z w32 low)) (to_z w32 (of_z w32 high))) → a ≤ℤ b)
    × (a ≤ℤ b → IsTrue (int_le (to_z w32 (of_z w32 low)) (to_z w32 (of_z w32 high))))
at_most low high a b f g d e = rw (to_z-of_z f, to_z-of_z g, d, e) (compared a b)

-- c times the point that lies a parts of c from p to q
pub along_reads : (c a : ℕ) (p q : ℤ) → Reads (along c a p q) (c * up p + a * (up q + down p)) (c * down p + a * (down q + up p))
along_reads c a p q = again (plus (times (number c) (itself p)) (times (number a) (minus (itself q) (itself p)))) (omega arith)

-- it is not below c times a number that no end is below
not_below : (a k : ℕ) (p q n : ℤ) → n ≤ℤ p → n ≤ℤ q
    → (a + k) * up n + ((a + k) * down p + a * (down q + up p)) ≤ (a + k) * down n + ((a + k) * up p + a * (up q + down p))
not_below a k p q n f g =
    let first : k * (up n + down p) ≤ k * (up p + down n) = mul-le-mul_left k (omega (arith, ints)) in
    let second : a * (up n + down q) ≤ a * (up q + down n) = mul-le-mul_left a (omega (arith, ints)) in
    omega arith

-- nor above c times a number that no end is above
not_above : (a k : ℕ) (p q m : ℤ) → p ≤ℤ m → q ≤ℤ m
    → (a + k) * down m + ((a + k) * up p + a * (up q + down p)) ≤ (a + k) * up m + ((a + k) * down p + a * (down q + up p))
not_above a k p q m f g =
    let first : k * (up p + down m) ≤ k * (up m + down p) = mul-le-mul_left k (omega (arith, ints)) in
    let second : a * (up q + down m) ≤ a * (up m + down q) = mul-le-mul_left a (omega (arith, ints)) in
    omega arith

parts : (a c : ℕ) → a ≤ c → (k : ℕ) × (c ≡ a + k)
parts a c h = (c - a, omega arith)

-- so intervals that lie apart have no common point
apart : (c a b : ℕ) (p q r s m n : ℤ) → 0 < c → a ≤ c → b ≤ c → p ≤ℤ m → q ≤ℤ m → n ≤ℤ r → n ≤ℤ s → m <ℤ n → along c a p q ≡ along c b r s → ⊥
apart c a b p q r s m n some f g on_p on_q on_r on_s below e =
    let first = parts a c f in
    let second = parts b c g in
    let low : c * down m + (c * up p + a * (up q + down p)) ≤ c * up m + (c * down p + a * (down q + up p)) =
    rw first.1 (not_above a first.0 p q m on_p on_q) in
    let high : c * up n + (c * down r + b * (down s + up r)) ≤ c * down n + (c * up r + b * (up s + down r)) =
    rw second.1 (not_below b second.0 r s n on_r on_s) in
    let between : c * (up m + down n + 1) ≤ c * (up n + down m) = mul-le-mul_left c (omega (arith, ints)) in
    omega (arith, equal (along_reads c a p q) (along_reads c b r s) e)

-- intervals with a common point overlap
pub overlaps : (c a b : ℕ) (p q r s : ℤ) → 0 < c → a ≤ c → b ≤ c → along c a p q ≡ along c b r s → Overlap p q r s
overlaps c a b p q r s some f g e =
    by_lt_z (int_max p q) (int_min r s)
    (λ h. absurd (apart c a b p q r s (int_max p q) (int_min r s) some f g (omega (arith, ints, clamps)) (omega (arith, ints, clamps))
    (omega (arith, ints, clamps)) (omega (arith, ints, clamps)) h e))
    (λ g'. by_lt_z (int_max r s) (int_min p q)
    (λ h. absurd (apart c b a r s p q (int_max r s) (int_min p q) some g f (omega (arith, ints, clamps)) (omega (arith, ints, clamps))
    (omega (arith, ints, clamps)) (omega (arith, ints, clamps)) h (sym e)))
    (λ h'. omega (arith, ints, clamps)))
