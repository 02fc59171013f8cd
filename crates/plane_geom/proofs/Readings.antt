-- A whole number read as a difference of two naturals. Identities between products are proved on the
-- naturals, where `omega` multiplies out.
use Rattle.std.proofs.Common.{◌≡◌, ℕ, ◌+◌, ◌*◌, ap, arith, ℤ, pos, ◌+ℤ◌, ◌-ℤ◌, ◌*ℤ◌}
use borrow.Author.Differences.{up, down, sum_is_lem, product_is, same_in, same_out, ints}

-- z is m - n
pub record Reads (z : ℤ) (m n : ℕ) : Type 0 where
  pub reads : up z + n ≡ down z + m

pub itself : (z : ℤ) → Reads z (up z) (down z)
itself z = record { reads = omega arith }

pub number : (n : ℕ) → Reads (pos n) n 0
number n = record { reads = omega arith }

pub plus : {x y : ℤ} {a b c d : ℕ} → Reads x a b → Reads y c d → Reads (x +ℤ y) (a + c) (b + d)
plus {x} {y} p q = record { reads = omega (arith, sum_is_lem x y, p.reads, q.reads) }

pub minus : {x y : ℤ} {a b c d : ℕ} → Reads x a b → Reads y c d → Reads (x -ℤ y) (a + d) (b + c)
minus {x} {y} p q = record { reads = omega (arith, ints, p.reads, q.reads) }

products : (u v a b s t c d : ℕ) → u + b ≡ v + a → s + d ≡ t + c → (u * s + v * t) + (a * d + b * c) ≡ (u * t + v * s) + (a * c + b * d)
products u v a b s t c d e f = omega (arith, ap (λ (n : ℕ). n * s) e, ap (λ (n : ℕ). n * t) e, ap (λ (n : ℕ). n * a) f, ap (λ (n : ℕ). n * b) f)

pub times : {x y : ℤ} {a b c d : ℕ} → Reads x a b → Reads y c d → Reads (x *ℤ y) (a * c + b * d) (a * d + b * c)
times {x} {y} {a} {b} {c} {d} p q = record { reads = omega (arith, product_is x y, products (up x) (down x) a b (up y) (down y) c d p.reads q.reads) }

-- another way to write the two naturals
pub again : {z : ℤ} {a b c d : ℕ} → Reads z a b → a + d ≡ b + c → Reads z c d
again p e = record { reads = omega (arith, p.reads, e) }

pub same : {x y : ℤ} {a b c d : ℕ} → Reads x a b → Reads y c d → a + d ≡ b + c → x ≡ y
same {x} {y} p q e = same_in x y (omega (arith, p.reads, q.reads))

pub equal : {x y : ℤ} {a b c d : ℕ} → Reads x a b → Reads y c d → x ≡ y → a + d ≡ b + c
equal {x} {y} p q e = omega (arith, p.reads, q.reads, same_out x y e)
