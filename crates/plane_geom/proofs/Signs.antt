-- Signs of two turns: what the test of them says, and which sums they rule out.
use Rattle.std.proofs.Common.{◌≡◌, ℕ, zero, suc, ◌+◌, ◌*◌, ◌<◌, ◌≤◌, not, IsTrue, nat_eq, arith, ap, refl, mul-le-mul_left, ℤ, pos, negsuc, ◌+ℤ◌, ◌-ℤ◌}
use Rattle.std.proofs.Common.{◌*ℤ◌, int_lt, w8, of_z, to_z}
use Rattle.std.specs.Int.{int_signum}
use borrow.Author.Differences.{up, down, ints}
use Rattle.plane_geom.specs.Tests.{Split}
use Rattle.plane_geom.proofs.Readings.{number, itself, plus, times, equal}

-- the sign by cases
sign_of : ℤ → ℤ
sign_of (pos zero) = pos 0
sign_of (pos (suc n)) = pos 1
sign_of (negsuc n) = negsuc 0

sign_is : (m : ℤ) → int_signum m ≡ sign_of m
unfolding sign_of
sign_is (pos zero) = refl
sign_is (pos (suc n)) = ap pos (omega arith)
sign_is (negsuc n) = refl

-- a sign kept in a byte is above 0 exactly where the number is
above : (m : ℤ) → int_lt (pos 0) (to_z w8 (of_z w8 (sign_of m))) ≡ int_lt (pos 0) m
unfolding sign_of
above (pos zero) = refl
above (pos (suc n)) = grind arith
above (negsuc n) = refl

difference_above : (x y : ℤ) → int_lt (pos 0) (x -ℤ y) ≡ int_lt y x
difference_above x y = grind (arith, ints)

-- the test of a side is the test of two products
pub left_of : (r x y z : ℤ) → r ≡ int_signum (x -ℤ y) → y ≡ z → int_lt (pos 0) (to_z w8 (of_z w8 r)) ≡ int_lt z x
left_of r x y z e f = rw (e, sign_is (x -ℤ y), above (x -ℤ y), difference_above x y, f) refl

split_zero : (m n : ℤ) → of_z w8 (sign_of m) ≡ 0 → (IsTrue (nat_eq (of_z w8 (sign_of m)) 0) → Split m n) × (Split m n → IsTrue (nat_eq (of_z w8 (sign_of m)) 0))
unfolding sign_of
split_zero (pos zero) n e = (λ _. record { not_above = λ h. absurd (omega (arith, ints)); not_below = λ h. absurd (omega (arith, ints)) }, λ _. refl)
split_zero (pos (suc m)) n e = absurd (omega arith)
split_zero (negsuc m) n e = absurd (omega arith)

-- a first side of 0 splits
pub zero_splits : (m n r : ℤ) → r ≡ int_signum m → of_z w8 r ≡ 0 → (IsTrue (nat_eq (of_z w8 r) 0) → Split m n) × (Split m n → IsTrue (nat_eq (of_z w8 r) 0))
zero_splits m n r e = rw (e, sign_is m) (split_zero m n)

abbrev Unequal : ℤ → ℤ → Type 0
Unequal m n = IsTrue (not (nat_eq (of_z w8 (sign_of m)) (of_z w8 (sign_of n))))

split_unequal : (m n : ℤ) → (of_z w8 (sign_of m) ≡ 0 → ⊥) → (Unequal m n → Split m n) × (Split m n → Unequal m n)
unfolding sign_of
split_unequal (pos zero) n e = absurd (e refl)
split_unequal (pos (suc m)) (pos zero) e = (λ _. record { not_above = λ h k. omega (arith, ints); not_below = λ h k. omega (arith, ints) }, λ _. refl)
split_unequal (pos (suc m)) (pos (suc n)) e = (λ t. absurd (grind (arith, t)), λ s. absurd (s.not_above (omega (arith, ints)) (omega (arith, ints))))
split_unequal (pos (suc m)) (negsuc n) e = (λ _. record { not_above = λ h k. omega (arith, ints); not_below = λ h k. omega (arith, ints) }, λ _. refl)
split_unequal (negsuc m) (pos zero) e = (λ _. record { not_above = λ h k. omega (arith, ints); not_below = λ h k. omega (arith, ints) }, λ _. refl)
split_unequal (negsuc m) (pos (suc n)) e = (λ _. record { not_above = λ h k. omega (arith, ints); not_below = λ h k. omega (arith, ints) }, λ _. refl)
split_unequal (negsuc m) (negsuc n) e = (λ t. absurd (grind (arith, t)), λ s. absurd (s.not_below (omega (arith, ints)) (omega (arith, ints))))

-- a first side that isn't 0 splits where the second is another
pub unequal_splits : (m n r t : ℤ) → r ≡ int_signum m → t ≡ int_signum n → (of_z w8 r ≡ 0 → ⊥) → (IsTrue (not (nat_eq (of_z w8 r) (of_z w8 t))) → Split m n)
    × (Split m n → IsTrue (not (nat_eq (of_z w8 r) (of_z w8 t))))
unequal_splits m n r t e f = rw (e, f, sign_is m, sign_is n) (split_unequal m n)

-- two numbers with a weighted sum of 0 are not of one sign
pub unsigned_sum : (m n : ℤ) (k l : ℕ) → 0 < k + l → pos k *ℤ m +ℤ pos l *ℤ n ≡ pos 0 → Split m n
unsigned_sum m n k l some e =
    let sum = equal (plus (times (number k) (itself m)) (times (number l) (itself n))) (number 0) e in
    record {
      not_above = λ h g.
          let first : k * (down m + 1) ≤ k * up m = mul-le-mul_left k (omega (arith, ints)) in
          let second : l * (down n + 1) ≤ l * up n = mul-le-mul_left l (omega (arith, ints)) in
          omega arith;
      not_below = λ h g.
          let first : k * (up m + 1) ≤ k * down m = mul-le-mul_left k (omega (arith, ints)) in
          let second : l * (up n + 1) ≤ l * down n = mul-le-mul_left l (omega (arith, ints)) in
          omega arith;
    }
