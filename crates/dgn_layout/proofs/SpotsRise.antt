-- The spots of an element rise, and spots that rise are apart.
use Rattle.std.proofs.Common.{◌≡◌, ℕ, zero, suc, ◌+◌, ◌*◌, ◌<◌, ◌≤◌, ◌==◌, ◌++◌, Bool, true, false, cond, if◌then◌else◌, List, [], ◌∷◌, refl, arith}
use Rattle.std.specs.Prelude.{◌⊎◌, All, count_by}
use Rattle.std.proofs.lemmas.List.Elements.{All-nil, All-cons}
use Rattle.std.proofs.lemmas.List.Sums.{sum_by-cons}
use Rattle.std.proofs.lemmas.Bool.Decides.{nat_tests}
use Rattle.dgn_layout.specs.declared.spot.Spot.{Spot}
use Rattle.dgn_layout.specs.declared.types.Class.{Class}
use Rattle.dgn_layout.specs.Classes.{class_of}
use Rattle.dgn_layout.specs.Spots.{fields_from, point_spots, points_spots, range_spots, spots_with, has_spots, points_in, layout_end, Points, HoldsPoints}
use Rattle.dgn_layout.specs.Spots.{Rise, spots_of}
use Rattle.dgn_layout.specs.Laws.{LiesIn, has_byte, SpotsAreApart}

-- spots that rise from a place rise from an earlier one
rise_earlier : (p q end : ℕ) (ss : List Spot) → p ≤ q → Rise q ss end → Rise p ss end
rise_earlier p q end [] h r = omega arith
rise_earlier p q end (s ∷ ss) h r = (omega arith, r.1)

-- spots that rise to a place, and then those from there on
rise_on : (p q end : ℕ) (ss ts : List Spot) → Rise p ss q → Rise q ts end → Rise p (ss ++ ts) end
rise_on p q end [] ts r t = rise_earlier p q end ts r t
rise_on p q end (s ∷ ss) ts r t = (r.0, rise_on (s.at + 4) q end ss ts r.1 t)

-- fields side by side
rise_fields : (offset : Bool) (n axis p end : ℕ) → p + 4 * n ≤ end → Rise p (fields_from offset n axis p) end
rise_fields offset zero axis p end h = omega arith
rise_fields offset (suc n) axis p end h = (omega arith, rise_fields offset n (axis + 1) (p + 4) end (omega arith))

-- points side by side
rise_points : (n dim p end : ℕ) → p + 4 * dim * n ≤ end → Rise p (points_spots n dim p) end
rise_points zero dim p end h = omega arith
rise_points (suc n) dim p end h =
    rise_on p (p + 4 * dim) end (point_spots dim p) (points_spots n dim (p + 4 * dim))
    (rise_fields false dim 0 p (p + 4 * dim) (omega arith))
    (rise_points n dim (p + 4 * dim) end (omega arith))

-- points stand behind the first four bytes, and where there is a range behind it
abbrev first_place : Bool → ℕ
first_place true = 36
first_place false = 4

-- the range, and then points that stand behind it
rise_with : (spotted : Bool) (dim : ℕ) (points : Points) (end : ℕ) → dim ≤ 3 → first_place spotted ≤ points.start → layout_end dim points ≤ end
    → Rise 4 (spots_with spotted dim points) end
rise_with false dim points end few behind h = omega arith
rise_with true dim points end few behind h =
    rise_on 4 points.start end (range_spots dim) (points_spots points.count dim points.start)
    (rise_on 4 16 points.start (fields_from true dim 0 4) (fields_from true dim 0 16)
    (rise_fields true dim 0 4 16 (omega arith))
    (rise_fields true dim 0 16 points.start (omega arith)))
    (rise_points points.count dim points.start end h)

-- points stand behind the range, in each row of the table
either_behind : (t : Bool) (these others : Points) → 36 ≤ these.start → 36 ≤ others.start → 36 ≤ (if t then these else others).start
either_behind true these others h k = h
either_behind false these others h k = k

either_place : (t : Bool) (p q : ℕ) → 36 ≤ p → 36 ≤ q → 36 ≤ (if t then p else q)
either_place true p q h k = h
either_place false p q h k = k

points_behind : (class : Class) (dim kind : ℕ) (b : List ℕ) → first_place (has_spots class) ≤ (points_in class dim kind b).start
points_behind Class.Vertices dim kind b = either_behind (kind == 3) _ _ (omega arith) (omega arith)
points_behind Class.Words dim kind b = either_place (dim == 2) _ _ (omega arith) (omega arith)
points_behind Class.Counted dim kind b =
    either_behind (kind == 2) _ _ (either_place (dim == 2) _ _ (omega arith) (omega arith))
    (either_behind (kind == 7) _ _ (either_place (dim == 2) _ _ (omega arith) (omega arith)) (omega arith))
points_behind Class.Run dim kind b = omega arith
points_behind Class.Floating dim kind b = omega arith
points_behind Class.Boxed dim kind b = omega arith
points_behind Class.Silent dim kind b = omega arith

-- the spots of an element that holds its points rise from byte 4 to the end of the element
pub spots_rise : (dim kind size : ℕ) (b : List ℕ) → (dim ≡ 2) ⊎ (dim ≡ 3) → HoldsPoints dim kind b size → Rise 4 (spots_of dim kind b) size
spots_rise dim kind size b two h =
    rise_with (has_spots (class_of kind)) dim (points_in (class_of kind) dim kind b) size (omega arith) (points_behind (class_of kind) dim kind b) h

-- the end is behind the place from which spots rise
rise_ends : (p end : ℕ) (ss : List Spot) → Rise p ss end → p ≤ end
rise_ends p end [] r = r
rise_ends p end (s ∷ ss) r =
    let behind = rise_ends (s.at + 4) end ss r.1 in
    omega arith

-- spots that rise lie between the two places
rise_within : (p q end : ℕ) (ss : List Spot) → p ≤ q → Rise q ss end → All (LiesIn p end) ss
rise_within p q end [] h r = All-nil (LiesIn p end)
rise_within p q end (s ∷ ss) h r =
    let behind = rise_ends (s.at + 4) end ss r.1 in
    All-cons (LiesIn p end) s ss (record { low = omega arith; high = behind }) (rise_within p (s.at + 4) end ss (omega arith) r.1)

-- a byte before the place from which they rise is in none
none_before : (k p end : ℕ) (ss : List Spot) → k < p → Rise p ss end → count_by (has_byte k) ss ≡ 0
none_before k p end [] h r = refl
none_before k p end (s ∷ ss) h r =
    let others = none_before k (s.at + 4) end ss (omega arith) r.1 in
    grind (arith, nat_tests, sum_by-cons)

-- a byte of a spot is before the place behind it
byte_before : (k : ℕ) (s : Spot) → has_byte k s ≡ true → k < s.at + 4
byte_before k s e = grind (arith, nat_tests)

one_more : (t : Bool) (n : ℕ) → n ≤ 1 → (t ≡ true → n ≡ 0) → cond t 1 0 + n ≤ 1
one_more true n h none = omega (arith, none refl)
one_more false n h none = omega arith

-- any byte is in one at most
one_at_most : (k p end : ℕ) (ss : List Spot) → Rise p ss end → count_by (has_byte k) ss ≤ 1
one_at_most k p end [] r = omega arith
one_at_most k p end (s ∷ ss) r =
    let others = one_at_most k (s.at + 4) end ss r.1 in
    let all = one_more (has_byte k s) (count_by (has_byte k) ss) others (λ e. none_before k (s.at + 4) end ss (byte_before k s e) r.1) in
    rw (sum_by-cons (λ x. cond (has_byte k x) 1 0) s ss) all

-- spots that rise are apart
pub rising_spots_are_apart : (p end : ℕ) (ss : List Spot) → Rise p ss end → SpotsAreApart p end ss
rising_spots_are_apart p end ss r = record {
  within = rise_within p p end ss (omega arith) r;
  single = λ k. one_at_most k p end ss r;
}
