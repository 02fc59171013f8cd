-- A point put for points of a row, in their bytes and in the row.
use Rattle.std.proofs.Common.{◌≡◌, ℕ, zero, suc, ◌+◌, ◌-◌, ◌*◌, ◌<◌, Bool, true, false, cond, List, [], ◌∷◌, ◌++◌, length, map, take, refl, sym, ap, ◌∙◌, subst}
use Rattle.std.proofs.Common.{arith}
use Rattle.std.specs.Prelude.{ℤ, ◌==◌, ◌&&◌, ◌||◌, nat_lt}
use Rattle.std.specs.List.{AllByRecursion, flat_map}
use Rattle.std.proofs.lemmas.Bool.{and_parts}
use Rattle.std.proofs.lemmas.Bool.Decides.{nat_tests}
use Rattle.std.proofs.lemmas.List.{append-nil, map-append}
use Rattle.dgn_words.specs.Numbers.{long_bytes}
use Rattle.range_code.specs.Ranges.{on_axis}
use Rattle.dgn_layout.specs.declared.spot.Spot.{Spot}
use Rattle.dgn_layout.specs.Spots.{fields_from, point_spots}
use Rattle.patch_bytes.specs.Puts.{Put}
use Rattle.dgn_drawing.specs.Spelling.{point_bytes}
use Rattle.dgn_drawing.specs.WellFormed.{IsDimension, IsPoint}
use Rattle.dgn_drawing.proofs.Places.{in_both}
use Rattle.dgn_drawing.proofs.Fields.{length-point_bytes}
use Rattle.dgn_revision.specs.Revising.{is_ring, numbers_put, put_for, put_for_each}
use Rattle.dgn_revision.specs.RevisionPuts.{number_put}
use Rattle.dgn_revision.proofs.PiecesWritten.{Writes, writes_none, writes_one, writes_then, writes_before, writes_behind}

-- the numbers of a point on some axes, from one on
abbrev axes_from : ℕ → ℕ → List ℤ → List ℤ
axes_from zero axis point = []
axes_from (suc n) axis point = on_axis point axis ∷ axes_from n (axis + 1) point

-- on the file's axes they are its front
axes_are : (dim : ℕ) → IsDimension dim → (point : List ℤ) → length point ≡ 3 → axes_from dim 0 point ≡ take dim point
axes_are dim axes [] long = absurd (omega arith)
axes_are dim axes (x ∷ []) long = absurd (omega arith)
axes_are dim axes (x ∷ y ∷ []) long = absurd (omega arith)
axes_are dim axes (x ∷ y ∷ z ∷ w ∷ more) long = absurd (omega arith)
axes_are dim axes (x ∷ y ∷ z ∷ []) long = in_both (λ (d : ℕ). axes_from d 0 (x ∷ y ∷ z ∷ []) ≡ take d (x ∷ y ∷ z ∷ [])) refl refl axes

-- longs side by side, over as many
longs_written : (point : List ℤ) (n axis p : ℕ) (old : List ℤ) → length old ≡ n
    → Writes p (flat_map long_bytes old) (map (number_put point) (fields_from false n axis p)) (flat_map long_bytes (axes_from n axis point))
longs_written point zero axis p [] is = writes_none p []
longs_written point zero axis p (x ∷ xs) is = absurd (omega arith)
longs_written point (suc n) axis p [] is = absurd (omega arith)
longs_written point (suc n) axis p (x ∷ xs) is =
    writes_then p (p + 4) (long_bytes x) (flat_map long_bytes xs) (long_bytes (on_axis point axis)) (flat_map long_bytes (axes_from n (axis + 1) point))
    (record { at = p; bytes = long_bytes (on_axis point axis) } ∷ []) (map (number_put point) (fields_from false n (axis + 1) (p + 4))) refl
    (writes_one p (long_bytes x) (long_bytes (on_axis point axis)) refl)
    (longs_written point n (axis + 1) (p + 4) xs (omega arith))

-- the spots of points of these numbers, where the first point stands at place p
abbrev pub spots_from : ℕ → ℕ → List ℕ → List Spot
spots_from dim p ks = flat_map (λ (k : ℕ). point_spots dim (p + 4 * dim * k)) ks

-- a ring has more than one point
ring_long : (kind : ℕ) (points : List (List ℤ)) → is_ring kind points ≡ true → 1 < length points
ring_long kind points ring =
    let two = and_parts (kind == 6 && nat_lt 1 (length points)) _ ring in
    let last = and_parts (kind == 6) (nat_lt 1 (length points)) two.0 in
    let more : nat_lt 1 (length points) ≡ true = last.1 in
    grind (arith, nat_tests)

module _ (dim : ℕ) (axes : IsDimension dim) (point : List ℤ) (long : length point ≡ 3) where
  abbrev new : List ℤ
  new = take dim point

  -- a point over a point
  point_written : (p : ℕ) (old : List ℤ) → length old ≡ dim
      → Writes p (point_bytes old) (map (number_put point) (point_spots dim p)) (point_bytes new)
  point_written p old is =
      subst (λ (v : List ℤ). Writes p (point_bytes old) (map (number_put point) (point_spots dim p)) (point_bytes v)) (axes_are dim axes point long)
      (longs_written point dim 0 p old is)

  -- over that of number k
  one_written : (k p q : ℕ) (points : List (List ℤ)) → q ≡ p + 4 * dim * k → k < length points → AllByRecursion (IsPoint dim) points
      → Writes p (flat_map point_bytes points) (map (number_put point) (point_spots dim q)) (flat_map point_bytes (put_for new k points))
  one_written k p q [] at within good = absurd (omega arith)
  one_written zero p q (v ∷ vs) at within good =
      let same : p ≡ q = omega arith in
      subst (λ (r : ℕ). Writes p (flat_map point_bytes (v ∷ vs)) (map (number_put point) (point_spots dim r)) (point_bytes new ++ flat_map point_bytes vs)) same
      (writes_before p (point_bytes v) (point_bytes new) (flat_map point_bytes vs) (map (number_put point) (point_spots dim p))
      (point_written p v good.0.long))
  one_written (suc k) p q (v ∷ vs) at within good =
      let next : q ≡ (p + 4 * dim) + 4 * dim * k = omega arith in
      writes_behind p (p + 4 * dim) (point_bytes v) (flat_map point_bytes vs) (flat_map point_bytes (put_for new k vs))
      (map (number_put point) (point_spots dim q)) (omega (arith, length-point_bytes v, good.0.long))
      (one_written k (p + 4 * dim) q vs next (omega arith) good.1)

  -- over that of one number
  alone_written : (p k : ℕ) (points : List (List ℤ)) → k < length points → AllByRecursion (IsPoint dim) points
      → Writes p (flat_map point_bytes points) (map (number_put point) (spots_from dim p (k ∷ []))) (flat_map point_bytes (put_for_each new (k ∷ []) points))
  alone_written p k points within good =
      subst (λ (ss : List Spot). Writes p (flat_map point_bytes points) (map (number_put point) ss) (flat_map point_bytes (put_for new k points)))
      (sym (append-nil (point_spots dim (p + 4 * dim * k)))) (one_written k p (p + 4 * dim * k) points refl within good)

  -- the first point and the last of at least two
  both_written : (p : ℕ) (points : List (List ℤ)) → 1 < length points → AllByRecursion (IsPoint dim) points
      → Writes p (flat_map point_bytes points) (map (number_put point) (spots_from dim p (0 ∷ (length points - 1) ∷ [])))
      (flat_map point_bytes (put_for_each new (0 ∷ (length points - 1) ∷ []) points))
  both_written p [] more good = absurd (omega arith)
  both_written p (v ∷ vs) more good =
      last_written (length (v ∷ vs) - 1) (omega arith)
    where
      last_written : (n : ℕ) → n ≡ length vs
          → Writes p (flat_map point_bytes (v ∷ vs)) (map (number_put point) (spots_from dim p (0 ∷ n ∷ [])))
          (flat_map point_bytes (put_for_each new (0 ∷ n ∷ []) (v ∷ vs)))
      last_written zero is = absurd (omega arith)
      last_written (suc n) is =
          let first : p ≡ p + 4 * dim * 0 = omega arith in
          let last : ℕ = p + 4 * dim * suc n in
          let two = alone_two (suc n) last first in
          subst (λ (ps : List Put). Writes p (flat_map point_bytes (v ∷ vs)) ps (point_bytes new ++ flat_map point_bytes (put_for new n vs))) two
          (writes_then p (p + 4 * dim) (point_bytes v) (flat_map point_bytes vs) (point_bytes new) (flat_map point_bytes (put_for new n vs))
          (map (number_put point) (point_spots dim p)) (map (number_put point) (point_spots dim last))
          (omega (arith, length-point_bytes v, good.0.long))
          (point_written p v good.0.long)
          (one_written n (p + 4 * dim) last vs (omega arith) (omega arith) good.1))
        where
          alone_two : (k last : ℕ) → p ≡ p + 4 * dim * 0
              → map (number_put point) (point_spots dim p) ++ map (number_put point) (point_spots dim (p + 4 * dim * k))
              ≡ map (number_put point) (spots_from dim p (0 ∷ k ∷ []))
          alone_two k last at =
              rw (append-nil (point_spots dim (p + 4 * dim * k)), map-append (number_put point) (point_spots dim (p + 4 * dim * 0)) (point_spots dim (p + 4 * dim * k)))
              (ap (λ (r : ℕ). map (number_put point) (point_spots dim r) ++ map (number_put point) (point_spots dim (p + 4 * dim * k))) at)

  -- those that a point is put for
  pub points_written : (kind p : ℕ) (points : List (List ℤ)) (i : ℕ) → i < length points → AllByRecursion (IsPoint dim) points
      → Writes p (flat_map point_bytes points) (map (number_put point) (spots_from dim p (numbers_put kind points i)))
      (flat_map point_bytes (put_for_each new (numbers_put kind points i) points))
  points_written kind p points i within good =
      by_test (is_ring kind points && (i == 0 || i + 1 == length points)) refl
    where
      by_test : (t : Bool) → (is_ring kind points && (i == 0 || i + 1 == length points)) ≡ t
          → Writes p (flat_map point_bytes points) (map (number_put point) (spots_from dim p (cond t (0 ∷ (length points - 1) ∷ []) (i ∷ []))))
          (flat_map point_bytes (put_for_each new (cond t (0 ∷ (length points - 1) ∷ []) (i ∷ [])) points))
      by_test true is =
          both_written p points (ring_long kind points (and_parts (is_ring kind points) (i == 0 || i + 1 == length points) is).0) good
      by_test false is = alone_written p i points within good

-- they are numbers of points
numbers_within : (kind : ℕ) (points : List (List ℤ)) (i : ℕ) → i < length points → AllByRecursion (λ k. k < length points) (numbers_put kind points i)
numbers_within kind points i within =
    by_test (is_ring kind points && (i == 0 || i + 1 == length points))
  where
    by_test : (t : Bool) → AllByRecursion (λ (k : ℕ). k < length points) (cond t (0 ∷ (length points - 1) ∷ []) (i ∷ []))
    by_test true = (omega (arith, within), (omega (arith, within), tt))
    by_test false = (within, tt)

-- a row keeps its length
one_long : (v : List ℤ) (k : ℕ) (points : List (List ℤ)) → k < length points → length (put_for v k points) ≡ length points
one_long v k [] within = absurd (omega arith)
one_long v zero (w ∷ ws) within = refl
one_long v (suc k) (w ∷ ws) within = omega (arith, one_long v k ws (omega arith))

each_long : (v : List ℤ) (ks : List ℕ) (points : List (List ℤ)) → AllByRecursion (λ k. k < length points) ks → length (put_for_each v ks points) ≡ length points
each_long v [] points within = refl
each_long v (k ∷ ks) points within =
    let one = one_long v k points within.0 in
    each_long v ks (put_for v k points) (subst (λ (n : ℕ). AllByRecursion (λ (j : ℕ). j < n) ks) (sym one) within.1) ∙ one

-- and its points are points of the file
one_good : (dim : ℕ) (v : List ℤ) → IsPoint dim v → (k : ℕ) (points : List (List ℤ)) → AllByRecursion (IsPoint dim) points
    → AllByRecursion (IsPoint dim) (put_for v k points)
one_good dim v fits zero [] good = (fits, tt)
one_good dim v fits (suc k) [] good = (fits, tt)
one_good dim v fits zero (w ∷ ws) good = (fits, good.1)
one_good dim v fits (suc k) (w ∷ ws) good = (good.0, one_good dim v fits k ws good.1)

each_good : (dim : ℕ) (v : List ℤ) → IsPoint dim v → (ks : List ℕ) (points : List (List ℤ)) → AllByRecursion (IsPoint dim) points
    → AllByRecursion (IsPoint dim) (put_for_each v ks points)
each_good dim v fits [] points good = good
each_good dim v fits (k ∷ ks) points good = each_good dim v fits ks (put_for v k points) (one_good dim v fits k points good)

-- a row with a point put for some has as many points, all of them points of the file
pub points_long : (v : List ℤ) (kind : ℕ) (points : List (List ℤ)) (i : ℕ) → i < length points
    → length (put_for_each v (numbers_put kind points i) points) ≡ length points
points_long v kind points i within = each_long v (numbers_put kind points i) points (numbers_within kind points i within)

pub points_good : (dim : ℕ) (v : List ℤ) → IsPoint dim v → (kind : ℕ) (points : List (List ℤ)) (i : ℕ) → AllByRecursion (IsPoint dim) points
    → AllByRecursion (IsPoint dim) (put_for_each v (numbers_put kind points i) points)
points_good dim v fits kind points i good = each_good dim v fits (numbers_put kind points i) points good

-- the front of a point of three numbers, on the file's axes
pub front_good : (dim : ℕ) → IsDimension dim → (point : List ℤ) → IsPoint 3 point → IsPoint dim (take dim point)
front_good dim axes [] fits = absurd (omega (arith, fits.long))
front_good dim axes (x ∷ []) fits = absurd (omega (arith, fits.long))
front_good dim axes (x ∷ y ∷ []) fits = absurd (omega (arith, fits.long))
front_good dim axes (x ∷ y ∷ z ∷ w ∷ more) fits = absurd (omega (arith, fits.long))
front_good dim axes (x ∷ y ∷ z ∷ []) fits =
    let on = fits.on_plane in
    in_both (λ (d : ℕ). IsPoint d (take d (x ∷ y ∷ z ∷ []))) (record { long = refl; on_plane = (on.0, (on.1.0, tt)) })
    (record { long = refl; on_plane = (on.0, (on.1.0, (on.1.1.0, tt))) }) axes
