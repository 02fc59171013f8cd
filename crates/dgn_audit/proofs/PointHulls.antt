-- The points of an element, read from its spots one number after the other.
use Rattle.std.proofs.Common.{◌≡◌, ℕ, ℤ, zero, suc, ◌+◌, ◌-◌, ◌*◌, List, [], ◌∷◌, ◌++◌, Option, Some, None, Bool, true, false, cond, refl, sym, ap, ◌∙◌}
use Rattle.std.specs.Prelude.{◌==◌, if◌then◌else◌, pos}
use Rattle.dgn_words.specs.Numbers.{word_at, long_at, longs_at}
use Rattle.range_code.specs.declared.Box3.{Box3}
use Rattle.body_vertex.specs.Points.{points_at, points_of}
use Rattle.dgn_layout.specs.declared.spot.Spot.{Spot}
use Rattle.dgn_layout.specs.declared.types.Class.{Class}
use Rattle.dgn_layout.specs.Classes.{class_of}
use Rattle.dgn_layout.specs.Spots.{range_spots, point_spots, points_spots, Points as Row, points_in, has_spots, spots_with, spots_of}
use Rattle.dgn_drawing.specs.WellFormed.{IsDimension}
use Rattle.dgn_drawing.proofs.Places.{in_both}
use Rattle.dgn_audit.specs.Hulls.{box_of, hull_join, is_vertices, points_hull}
use Rattle.dgn_audit.specs.Reading.{with_number}
use Rattle.dgn_audit.proofs.Boxes.{hull_assoc, hull_none}
use Rattle.dgn_audit.proofs.ElementHulls.{row_class}

-- no number of a point is read
abbrev pub blank : List ℤ
blank = pos 0 ∷ pos 0 ∷ pos 0 ∷ []

-- the box of a point of three numbers
abbrev pub alone : List ℤ → Box3
alone point = record { lo = point; hi = point }

-- the box of points, of which one is begun, before spots
abbrev pub read_from : ℕ → List ℕ → List ℤ → Option Box3 → List Spot → Option Box3
read_from dim b point hull [] = hull
read_from dim b point hull (s ∷ ss) =
    if s.offset then read_from dim b point hull ss
    else if s.axis == dim - 1 then read_from dim b blank (hull_join hull (Some (alone (with_number point s.axis (long_at b s.at))))) ss
    else read_from dim b (with_number point s.axis (long_at b s.at)) hull ss

module _ (dim : ℕ) (axes : IsDimension dim) (b : List ℕ) where
  -- the spots of a range are passed
  ranges_passed : (hull : Option Box3) (ss : List Spot) → read_from dim b blank hull (range_spots dim ++ ss) ≡ read_from dim b blank hull ss
  ranges_passed hull ss = in_both (λ (d : ℕ). read_from d b blank hull (range_spots d ++ ss) ≡ read_from d b blank hull ss) refl refl axes

  -- those of a point give its box
  point_read : (p : ℕ) (hull : Option Box3) (ss : List Spot)
      → read_from dim b blank hull (point_spots dim p ++ ss) ≡ read_from dim b blank (hull_join hull (Some (box_of dim (longs_at dim b p)))) ss
  point_read p hull ss =
      in_both (λ (d : ℕ). read_from d b blank hull (point_spots d p ++ ss) ≡ read_from d b blank (hull_join hull (Some (box_of d (longs_at d b p)))) ss)
      refl refl axes

  points_read : (n p : ℕ) (hull : Option Box3) → read_from dim b blank hull (points_spots n dim p) ≡ hull_join hull (points_hull dim (points_at n dim b p))
  points_read zero p hull = sym (hull_none hull)
  points_read (suc n) p hull =
      point_read p hull (points_spots n dim (p + 4 * dim))
      ∙ points_read n (p + 4 * dim) (hull_join hull (Some (box_of dim (longs_at dim b p))))
      ∙ sym (hull_assoc hull (Some (box_of dim (longs_at dim b p))) (points_hull dim (points_at n dim b (p + 4 * dim))))

  by_kind : (t : Bool) (kind : ℕ) → (kind == 3) ≡ t
      → read_from dim b blank None (spots_with true dim (points_in Class.Vertices dim kind b)) ≡ points_hull dim (points_of dim kind b)
  by_kind t kind is =
      ranges_passed None (points_spots (points_in Class.Vertices dim kind b).count dim (points_in Class.Vertices dim kind b).start)
      ∙ two (kind == 3)
    where
      row : Bool → Row
      row t = cond t (record { count = 2; start = 36 }) (record { count = word_at b 36; start = 38 })

      two : (t : Bool) → read_from dim b blank None (points_spots (row t).count dim (row t).start)
          ≡ points_hull dim (points_at (cond t 2 (word_at b 36)) dim b (cond t 36 38))
      two true = points_read 2 36 None
      two false = points_read (word_at b 36) 38 None

  -- the spots of a row of points give their box
  pub row_read : (kind : ℕ) → is_vertices (class_of kind) ≡ true → read_from dim b blank None (spots_of dim kind b) ≡ points_hull dim (points_of dim kind b)
  row_read kind row =
      ap (λ (c : Class). read_from dim b blank None (spots_with (has_spots c) dim (points_in c dim kind b))) (row_class (class_of kind) row)
      ∙ by_kind (kind == 3) kind refl
