-- The fields of a corner or point that are left, one after the other.
use Rattle.std.proofs.Common.{◌≡◌, ℕ, zero, suc, ◌+◌, ◌-◌, ◌*◌, ◌<◌, ◌++◌, Bool, false, List, ◌∷◌, length, refl, ap, length-append, arith}
use Rattle.std.proofs.Math.Nat.{zero-mul, suc-mul}
use Rattle.dgn_layout.specs.declared.spot.Spot.{Spot}
use Rattle.dgn_layout.specs.Spots.{fields_from, points_spots}

-- the first of them, then the others
pub next_left : (offset : Bool) (n axis p : ℕ) (rest : List Spot) → 0 < n → fields_from offset n axis p
    ++ rest ≡ record { at = p; axis = axis; offset = offset } ∷ (fields_from offset (n - 1) (axis + 1) (p + 4) ++ rest)
next_left offset zero axis p rest h = absurd (omega arith)
next_left offset (suc n) axis p rest h =
    ap (λ (m : ℕ). record { at = p; axis = axis; offset = offset } ∷ (fields_from offset m (axis + 1) (p + 4) ++ rest)) (omega arith)

-- how many they are
pub fields_count : (offset : Bool) (n axis p : ℕ) → length (fields_from offset n axis p) ≡ n
fields_count offset zero axis p = refl
fields_count offset (suc n) axis p = omega (arith, fields_count offset n (axis + 1) (p + 4))

-- and those of points
pub points_count : (n dim p : ℕ) → length (points_spots n dim p) ≡ n * dim
points_count zero dim p = omega (arith, zero-mul dim)
points_count (suc n) dim p =
    omega (
      arith,
      length-append (fields_from false dim 0 p) (points_spots n dim (p + 4 * dim)),
      fields_count false dim 0 p,
      points_count n dim (p + 4 * dim),
      suc-mul n dim,
    )
