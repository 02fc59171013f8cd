-- Points that stand side by side: how many they are, each of them, and where each ends.
use Rattle.std.proofs.Common.{◌≡◌, ℕ, zero, suc, ◌+◌, ◌*◌, ◌<◌, ◌≤◌, List, length, slice_get, Some, refl, ap, sym, ◌∙◌, arith}
use Rattle.std.specs.Prelude.{ℤ}
use Rattle.dgn_words.specs.Numbers.{longs_at}
use Rattle.body_vertex.specs.Points.{points_at}

-- there are n of them
pub length-points_at : (n dim : ℕ) (b : List ℕ) (p : ℕ) → length (points_at n dim b p) ≡ n
length-points_at zero dim b p = refl
length-points_at (suc n) dim b p = grind (arith, length-points_at n dim b (p + 4 * dim))

-- the one at index i stands 4 * dim * i bytes behind the first
pub slice_get-points_at : (n dim : ℕ) (b : List ℕ) (p i : ℕ) → i < n → slice_get (points_at n dim b p) i ≡ Some (longs_at dim b (p + 4 * dim * i))
slice_get-points_at zero dim b p i within = absurd (omega arith)
slice_get-points_at (suc n) dim b p zero within = ap (λ q. Some (longs_at dim b q)) (omega arith)
slice_get-points_at (suc n) dim b p (suc i) within =
    slice_get-points_at n dim b (p + 4 * dim) i (omega arith)
    ∙ ap (λ q. Some (longs_at dim b q)) (grind arith)

module _ (n dim : ℕ) (b : List ℕ) (p : ℕ) {points : List (List ℤ)} (these : points_at n dim b p ≡ points) (i : ℕ) (within : i < length points) where
  -- an index within the points is one of the n
  below : i < n
  below = omega (arith, length-points_at n dim b p, ap (length {A = List ℤ}) these)

  -- what stands there is the point
  pub point_is : slice_get points i ≡ Some (longs_at dim b (p + 4 * dim * i))
  point_is = ap (λ xs. slice_get xs i) (sym these) ∙ slice_get-points_at n dim b p i below

  -- and it ends where all of them do, or before
  pub point_within : p + 4 * dim * n ≤ length b → p + 4 * dim * i + 4 * dim ≤ length b
  point_within fit = let k : i < n = below in grind arith
