-- Another range is put at the range spots alone, and leaves the record well formed; a wider one is such a range.
use Rattle.std.proofs.Common.{◌≡◌, ℕ, ℤ, zero, suc, ◌+◌, ◌-◌, ◌*◌, ◌/◌, ◌≤◌, List, [], ◌∷◌, ◌++◌, length, take, drop, map, refl, sym, ap, ◌∙◌, subst, Bool}
use Rattle.std.proofs.Common.{true, false, cond, arith, length-append, append_assoc}
use Rattle.std.specs.Prelude.{slice_index_or, int_lt, pos}
use Rattle.std.specs.Int.{int_min, int_max}
use Rattle.std.specs.List.{AllByRecursion, flat_map}
use Rattle.dgn_words.specs.Numbers.{word_bytes, range_long_bytes}
use Rattle.dgn_layout.specs.Spots.{range_spots}
use Rattle.range_code.specs.declared.Box3.{Box3}
use Rattle.range_code.specs.Ranges.{range_of, join_of, on_axis}
use Rattle.patch_bytes.specs.Puts.{lay, write}
use Rattle.dgn_drawing.specs.Element.{Display, Parts, Body, Shown, Element}
use Rattle.dgn_drawing.specs.Spelling.{first_byte, second_byte, display_bytes, parts_bytes, body_bytes, spell, size_of}
use Rattle.dgn_drawing.specs.SpotNumbers.{widened_put, range_put, range_puts}
use Rattle.dgn_drawing.specs.WellFormed.{IsDimension, IsCoordinate, IsPoint, IsDisplay, IsWellFormed}
use Rattle.dgn_drawing.specs.Rows.{total_of, row_of}
use Rattle.dgn_drawing.specs.Changes.{range_in, display_ranged, body_ranged, with_range, body_widened, widen}
use Rattle.dgn_drawing.specs.Laws.{BodySits, WideningsAreWider}
use Rattle.dgn_drawing.proofs.FieldPlaces.{all-sits}
use Rattle.dgn_drawing.proofs.Places.{in_both}
use Rattle.dgn_drawing.proofs.Displays.{length-display}
use Rattle.dgn_drawing.proofs.Looks.{with_body}
use Rattle.dgn_drawing.proofs.BodyPieces.{words_and_look}

-- what is said of all corners of three numbers is said of all that are so long
of_three : (P : List ℤ → Type 0) → ((x y z : ℤ) → P (x ∷ y ∷ z ∷ [])) → (v : List ℤ) → length v ≡ 3 → P v
of_three P three [] long = absurd (omega arith)
of_three P three (x ∷ []) long = absurd (omega arith)
of_three P three (x ∷ y ∷ []) long = absurd (omega arith)
of_three P three (x ∷ y ∷ z ∷ w ∷ more) long = absurd (omega arith)
of_three P three (x ∷ y ∷ z ∷ []) long = three x y z

is_three : (v : List ℤ) → length v ≡ 3 → v ≡ slice_index_or v 0 (pos 0) ∷ slice_index_or v 1 (pos 0) ∷ slice_index_or v 2 (pos 0) ∷ []
is_three = of_three (λ v. v ≡ slice_index_or v 0 (pos 0) ∷ slice_index_or v 1 (pos 0) ∷ slice_index_or v 2 (pos 0) ∷ []) (λ x y z. refl)

-- a box whose corners are points
pub record IsBox (r : Box3) : Type 0 where
  pub low : IsPoint 3 r.lo
  pub high : IsPoint 3 r.hi

-- the corner of another range is a point
corner_good : (dim : ℕ) (v old : List ℤ) → IsDimension dim → IsPoint 3 v → IsPoint 3 old → IsPoint 3 (take dim v ++ drop dim old)
corner_good dim v old axes new good =
    of_three (λ a. AllByRecursion IsCoordinate a → IsPoint 3 (take dim a ++ drop dim old))
    (λ x y z. λ on. of_three (λ b. AllByRecursion IsCoordinate b → IsPoint 3 (take dim (x ∷ y ∷ z ∷ []) ++ drop dim b))
    (λ p q s. λ also. in_both (λ (d : ℕ). IsPoint 3 (take d (x ∷ y ∷ z ∷ []) ++ drop d (p ∷ q ∷ s ∷ [])))
    (record { long = refl; on_plane = (on.0, (on.1.0, (also.1.1.0, tt))) }) (record { long = refl; on_plane = (on.0, (on.1.0, (on.1.1.0, tt))) }) axes)
    old good.long good.on_plane) v new.long new.on_plane

-- an element's bytes, with the corners of its range
abbrev bytes_with : ℕ → ℕ → ℕ → List ℕ → List ℤ → List ℤ → List ℕ
bytes_with first second words behind low high =
    first ∷ second ∷ (word_bytes words ++ (flat_map range_long_bytes low ++ (flat_map range_long_bytes high ++ behind)))

-- the numbers of a box put at the range spots
corners_put : (dim first second words : ℕ) (behind : List ℕ) (lo hi low high : List ℤ) → IsDimension dim → length lo ≡ 3 → length hi ≡ 3 → length low ≡ 3
    → length high ≡ 3
    → bytes_with first second words behind (take dim lo ++ drop dim low) (take dim hi ++ drop dim high)
    ≡ write (bytes_with first second words behind low high) (map (range_put (record { lo = lo; hi = hi }) 0) (range_spots dim))
unfolding lay
corners_put dim first second words behind lo hi low high axes lo_long hi_long low_long high_long =
    let a = is_three lo lo_long in let b = is_three hi hi_long in let c = is_three low low_long in let d = is_three high high_long in
    in_both (λ (k : ℕ). bytes_with first second words behind (take k lo ++ drop k low) (take k hi ++ drop k high)
    ≡ write (bytes_with first second words behind low high) (map (range_put (record { lo = lo; hi = hi }) 0) (range_spots k)))
    (rw (a, b, c, d)) (rw (a, b, c, d)) axes

-- what stands behind the corners
abbrev behind_corners : Display → Parts → List ℕ → List ℕ
behind_corners d parts rest = words_and_look d ++ (parts_bytes parts ++ rest)

shown_bytes : (e : Element) (d : Display) (parts : Parts) (rest : List ℕ) (words : ℕ) → length (body_bytes (Shown d parts rest)) / 2 ≡ words
    → spell (with_body e (Shown d parts rest))
    ≡ bytes_with (first_byte e) (second_byte e) words (behind_corners d parts rest) d.low d.high
unfolding spell body_bytes display_bytes
shown_bytes e d parts rest words is =
    rw is (simp append_assoc)

-- a record with another range: its spelling is the record's with the numbers of the range put at the range spots, and it
-- is well formed, and nests as it did
pub record IsRangePut (dim : ℕ) (r : Box3) (e new : Element) : Type 0 where
  pub spelled : spell new ≡ write (spell e) (range_puts dim r 0)
  pub good : IsWellFormed dim new
  pub row : row_of new ≡ row_of e

module _ (dim : ℕ) (axes : IsDimension dim) (r : Box3) (box : IsBox r) (e : Element) (d : Display) (parts : Parts) (rest : List ℕ)
    (good : IsWellFormed dim (with_body e (Shown d parts rest))) where
  display_good : IsDisplay (display_ranged dim r d)
  display_good = record {
    low = corner_good dim r.lo d.low axes box.low good.parts.0.low;
    high = corner_good dim r.hi d.high axes box.high good.parts.0.high;
    group = good.parts.0.group;
    index = good.parts.0.index;
    properties = good.parts.0.properties;
    style = good.parts.0.style;
    weight = good.parts.0.weight;
    color = good.parts.0.color;
  }

  abbrev old : Element
  old = with_body e (Shown d parts rest)

  abbrev new : Element
  new = with_body e (Shown (display_ranged dim r d) parts rest)

  size_bytes : length (body_bytes (Shown (display_ranged dim r d) parts rest)) ≡ length (body_bytes (Shown d parts rest))
  unfolding body_bytes
  size_bytes = omega (arith, length-append {A = ℕ}, length-display d good.parts.0, length-display (display_ranged dim r d) display_good)

  size-new : size_of new ≡ size_of old
  unfolding spell
  size-new = omega (arith, size_bytes)

  shown_good : IsWellFormed dim new
  unfolding spell
  shown_good = record {
    level = good.level;
    kind = good.kind;
    form = good.form;
    parts = (display_good, good.parts.1, good.parts.2);
    even = rw size-new good.even;
    small = rw size-new good.small;
    no_mark = good.no_mark;
    attributes = λ says. let held = good.attributes says in
        (subst (λ n. n - length rest ≤ 32 + 2 * d.index) (sym size-new) held.0, subst (λ n. 32 + 2 * d.index ≤ n) (sym size-new) held.1);
  }

  shown_spelled : spell new ≡ write (spell old) (range_puts dim r 0)
  shown_spelled =
      let words : ℕ = length (body_bytes (Shown d parts rest)) / 2 in
      shown_bytes e (display_ranged dim r d) parts rest words (ap (λ (n : ℕ). n / 2) size_bytes)
      ∙ corners_put dim (first_byte e) (second_byte e) words (behind_corners d parts rest) r.lo r.hi d.low d.high axes
      box.low.long box.high.long good.parts.0.low.long good.parts.0.high.long
      ∙ ap (λ (b : List ℕ). write b (range_puts dim r 0)) (sym (shown_bytes e d parts rest words refl))

  shown_ranged : IsRangePut dim r old new
  shown_ranged = record {
    spelled = shown_spelled;
    good = shown_good;
    row = ap (λ (n : ℕ). record { size = n; kind = e.kind; cbit = e.cbit; total = total_of (Shown d parts rest) }) size-new;
  }

-- a shown record with another range
pub range_put_in : (dim : ℕ) (r : Box3) (e : Element) (d : Display) (parts : Parts) (rest : List ℕ) → IsDimension dim → IsBox r → IsWellFormed dim e
    → e.body ≡ Shown d parts rest → IsRangePut dim r e (with_range dim r e)
range_put_in dim r e d parts rest axes box good is =
    let held : IsWellFormed dim (with_body e (Shown d parts rest)) = subst (λ (b : Body). IsWellFormed dim (with_body e b)) is good in
    subst (λ (b : Body). IsRangePut dim r (with_body e b) (with_body e (body_ranged dim r b))) (sym is) (shown_ranged dim axes r box e d parts rest held)

-- one of two coordinates is one
one_of : (t : Bool) (x y : ℤ) → IsCoordinate x → IsCoordinate y → IsCoordinate (cond t x y)
one_of true x y one two = one
one_of false x y one two = two

-- the number of a point on an axis is a coordinate
pub each_or : (xs : List ℤ) (n : ℕ) → AllByRecursion IsCoordinate xs → IsCoordinate (slice_index_or xs n (pos 0))
each_or [] n each = refl
each_or (x ∷ xs) zero each = each.0
each_or (x ∷ xs) (suc n) each = each_or xs n each.1

-- the box that joins two boxes is one
pub joined_good : (a b : Box3) → IsBox a → IsBox b → IsBox (join_of a b)
joined_good a b one two =
    record {
      low = record { long = refl; on_plane = (least 0, (least 1, (least 2, tt))) };
      high = record { long = refl; on_plane = (greatest 0, (greatest 1, (greatest 2, tt))) };
    }
  where
    least : (n : ℕ) → IsCoordinate (int_min (on_axis a.lo n) (on_axis b.lo n))
    least n = one_of (int_lt (on_axis b.lo n) (on_axis a.lo n)) (on_axis b.lo n) (on_axis a.lo n) (each_or b.lo n two.low.on_plane)
        (each_or a.lo n one.low.on_plane)

    greatest : (n : ℕ) → IsCoordinate (int_max (on_axis a.hi n) (on_axis b.hi n))
    greatest n = one_of (int_lt (on_axis b.hi n) (on_axis a.hi n)) (on_axis a.hi n) (on_axis b.hi n) (each_or a.hi n one.high.on_plane)
        (each_or b.hi n two.high.on_plane)

-- what a wider range puts is what the range puts that joins it with the element's own
widened_puts : (dim : ℕ) (r : Box3) (b : List ℕ) → IsDimension dim → map (widened_put r b) (range_spots dim) ≡ range_puts dim (join_of (range_of b) r) 0
widened_puts dim r b axes = in_both (λ (d : ℕ). map (widened_put r b) (range_spots d) ≡ range_puts d (join_of (range_of b) r) 0) refl refl axes

-- the law on wider ranges
pub widen_put : WideningsAreWider
widen_put dim r e d parts rest axes lo hi good is =
    let sits = subst (BodySits dim e) is (all-sits dim e axes good).1 in
    let held : IsWellFormed dim (with_body e (Shown d parts rest)) = subst (λ (b : Body). IsWellFormed dim (with_body e b)) is good in
    let own : IsBox (range_in d) = record { low = held.parts.0.low; high = held.parts.0.high } in
    let both : Box3 = join_of (range_in d) r in
    let put = range_put_in dim both e d parts rest axes (joined_good (range_in d) r own (record { low = lo; high = hi })) good is in
    let same : widen dim r e ≡ with_range dim both e =
    ap (λ (b : Body). with_body e b) (ap (body_widened dim r) is ∙ sym (ap (body_ranged dim both) is)) in
    let puts : range_puts dim both 0 ≡ map (widened_put r (spell e)) (range_spots dim) =
    sym (widened_puts dim r (spell e) axes ∙ ap (λ (x : Box3). range_puts dim (join_of x r) 0) sits.0.range) in
    record {
      spelled = ap spell same ∙ put.spelled ∙ ap (write (spell e)) puts;
      good = subst (IsWellFormed dim) (sym same) put.good;
      row = ap row_of same ∙ put.row;
    }
