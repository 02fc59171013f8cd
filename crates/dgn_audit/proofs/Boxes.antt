-- Boxes join in any order, and those on the file's axes stay there.
use Rattle.std.proofs.Common.{◌≡◌, ℕ, ℤ, List, [], ◌∷◌, take, Option, Some, None, refl, sym, ap, ◌∙◌, arith}
use borrow.Author.Differences.{ints}
use Rattle.std.specs.Int.{int_min, int_max}
use Rattle.std.proofs.lemmas.Int.{clamps}
use Rattle.range_code.specs.declared.Box3.{Box3}
use Rattle.range_code.specs.Ranges.{join_of, least_corner, greatest_corner, on_axis}
use Rattle.dgn_drawing.specs.WellFormed.{IsDimension}
use Rattle.dgn_drawing.specs.Items.{in_space}
use Rattle.dgn_drawing.proofs.Places.{in_both}
use Rattle.dgn_audit.specs.Hulls.{hull_join, on_axes, box_of}

min_assoc : (x y z : ℤ) → int_min x (int_min y z) ≡ int_min (int_min x y) z
min_assoc x y z = omega (arith, ints, clamps)

max_assoc : (x y z : ℤ) → int_max x (int_max y z) ≡ int_max (int_max x y) z
max_assoc x y z = omega (arith, ints, clamps)

-- corners of three numbers
abbrev three : ℤ → ℤ → ℤ → List ℤ
three x y z = x ∷ y ∷ z ∷ []

three_same : (x y z u v w : ℤ) → x ≡ u → y ≡ v → z ≡ w → three x y z ≡ three u v w
three_same x y z u v w one two last =
    ap (λ (k : ℤ). three k y z) one ∙ ap (λ (k : ℤ). three u k z) two ∙ ap (λ (k : ℤ). three u v k) last

-- a box of these corners
abbrev boxed : List ℤ → List ℤ → Box3
boxed low high = record { lo = low; hi = high }

box_same : (a b c d : List ℤ) → a ≡ b → c ≡ d → boxed a c ≡ boxed b d
box_same a b c d low high = ap (λ (l : List ℤ). boxed l c) low ∙ ap (boxed b) high

pub join_assoc : (a b c : Box3) → join_of a (join_of b c) ≡ join_of (join_of a b) c
join_assoc a b c =
    box_same _ _ _ _
    (three_same _ _ _ _ _ _ (min_assoc (on_axis a.lo 0) (on_axis b.lo 0) (on_axis c.lo 0)) (min_assoc (on_axis a.lo 1) (on_axis b.lo 1) (on_axis c.lo 1))
    (min_assoc (on_axis a.lo 2) (on_axis b.lo 2) (on_axis c.lo 2)))
    (three_same _ _ _ _ _ _ (max_assoc (on_axis a.hi 0) (on_axis b.hi 0) (on_axis c.hi 0)) (max_assoc (on_axis a.hi 1) (on_axis b.hi 1) (on_axis c.hi 1))
    (max_assoc (on_axis a.hi 2) (on_axis b.hi 2) (on_axis c.hi 2)))

pub hull_assoc : (a b c : Option Box3) → hull_join a (hull_join b c) ≡ hull_join (hull_join a b) c
hull_assoc None b c = refl
hull_assoc (Some a) None c = refl
hull_assoc (Some a) (Some b) None = refl
hull_assoc (Some a) (Some b) (Some c) = ap Some (join_assoc a b c)

pub hull_none : (a : Option Box3) → hull_join a None ≡ a
hull_none None = refl
hull_none (Some a) = refl

-- a box is on the axes, if there is one
abbrev pub IsOnAxes : ℕ → Option Box3 → Type 0
IsOnAxes dim None = Unit {0}
IsOnAxes dim (Some r) = on_axes dim r ≡ r

-- a corner on the axes
abbrev corner_on_axes : ℕ → List ℤ → List ℤ
corner_on_axes dim corner = in_space (take dim corner)

-- the least and the greatest corner of two that are on the axes are so
abbrev AreFlat : ℕ → List ℤ → List ℤ → Type 0
AreFlat dim a b =
    (corner_on_axes dim (least_corner (corner_on_axes dim a) (corner_on_axes dim b)) ≡ least_corner (corner_on_axes dim a) (corner_on_axes dim b))
    × (corner_on_axes dim (greatest_corner (corner_on_axes dim a) (corner_on_axes dim b)) ≡ greatest_corner (corner_on_axes dim a) (corner_on_axes dim b))

both_flat : (dim : ℕ) → IsDimension dim → (a b : List ℤ) → AreFlat dim a b
both_flat dim axes a b = in_both (λ (d : ℕ). AreFlat d a b) (two a b) (refl, refl) axes
  where
    two : (a b : List ℤ) → AreFlat 2 a b
    two [] [] = (refl, refl)
    two [] (u ∷ []) = (refl, refl)
    two [] (u ∷ v ∷ w) = (refl, refl)
    two (x ∷ []) [] = (refl, refl)
    two (x ∷ []) (u ∷ []) = (refl, refl)
    two (x ∷ []) (u ∷ v ∷ w) = (refl, refl)
    two (x ∷ y ∷ z) [] = (refl, refl)
    two (x ∷ y ∷ z) (u ∷ []) = (refl, refl)
    two (x ∷ y ∷ z) (u ∷ v ∷ w) = (refl, refl)

-- what is put on the axes is there
flat_twice : (dim : ℕ) → IsDimension dim → (a : List ℤ) → corner_on_axes dim (corner_on_axes dim a) ≡ corner_on_axes dim a
flat_twice dim axes a = in_both (λ (d : ℕ). corner_on_axes d (corner_on_axes d a) ≡ corner_on_axes d a) (two a) refl axes
  where
    two : (a : List ℤ) → corner_on_axes 2 (corner_on_axes 2 a) ≡ corner_on_axes 2 a
    two [] = refl
    two (x ∷ []) = refl
    two (x ∷ y ∷ z) = refl

pub set_on_axes : (dim : ℕ) (r : Box3) → IsDimension dim → IsOnAxes dim (Some (on_axes dim r))
set_on_axes dim r axes = box_same _ _ _ _ (flat_twice dim axes r.lo) (flat_twice dim axes r.hi)

pub point_on_axes : (dim : ℕ) (p : List ℤ) → IsDimension dim → IsOnAxes dim (Some (box_of dim p))
point_on_axes dim p axes = box_same _ _ _ _ (flat_twice dim axes p) (flat_twice dim axes p)

-- the joined box of two on the axes is there
join_on_axes : (dim : ℕ) (a b : Box3) → IsDimension dim → on_axes dim a ≡ a → on_axes dim b ≡ b → on_axes dim (join_of a b) ≡ join_of a b
join_on_axes dim a b axes one two =
    ap (λ (x : Box3). on_axes dim (join_of x b)) (sym one) ∙ ap (λ (x : Box3). on_axes dim (join_of (on_axes dim a) x)) (sym two)
    ∙ box_same _ _ _ _ (both_flat dim axes a.lo b.lo).0 (both_flat dim axes a.hi b.hi).1
    ∙ ap (λ (x : Box3). join_of x (on_axes dim b)) one ∙ ap (join_of a) two

pub hulls_on_axes : (dim : ℕ) (a b : Option Box3) → IsDimension dim → IsOnAxes dim a → IsOnAxes dim b → IsOnAxes dim (hull_join a b)
hulls_on_axes dim None b axes one two = two
hulls_on_axes dim (Some a) None axes one two = one
hulls_on_axes dim (Some a) (Some b) axes one two = join_on_axes dim a b axes one two
