-- A point put for a vertex is its numbers at the spots of the points that it stands for, and a wider range, and leaves the
-- element well formed.
use Rattle.std.proofs.Common.{◌≡◌, ℕ, ℤ, ◌+◌, ◌-◌, ◌<◌, ◌≤◌, Bool, true, false, List, [], ◌∷◌, ◌++◌, length, map, take, refl, sym, ap, ◌∙◌, subst}
use Rattle.std.proofs.Common.{arith, length-append}
use Rattle.std.specs.Prelude.{if◌then◌else◌, ◌==◌}
use Rattle.std.specs.List.{flat_map}
use Rattle.std.proofs.lemmas.List.{map-append}
use Rattle.dgn_words.specs.Numbers.{word_bytes, long_bytes, range_long_bytes}
use Rattle.range_code.specs.declared.Box3.{Box3}
use Rattle.body_vertex.specs.Points.{points_start}
use Rattle.dgn_layout.specs.declared.spot.Spot.{Spot}
use Rattle.dgn_layout.specs.Spots.{range_spots}
use Rattle.patch_bytes.specs.Puts.{Put, write, Span}
use Rattle.patch_bytes.proofs.PutsLaid.{write-append}
use Rattle.patch_bytes.proofs.RisingPuts.{span_more}
use Rattle.dgn_drawing.specs.Element.{Display, Parts, Line, Points, Text, Node, Cell, Header, Plain, Body, Silent, Shown, Element, form_of_parts}
use Rattle.dgn_drawing.specs.Spelling.{point_bytes, display_bytes, parts_bytes, body_bytes, spell, size_of}
use Rattle.dgn_drawing.specs.WellFormed.{IsDimension, IsPoint, HasParts, IsWellFormed}
use Rattle.dgn_drawing.specs.declared.row.Row.{Row}
use Rattle.dgn_drawing.specs.Rows.{total_of_parts}
use Rattle.dgn_drawing.specs.Changes.{range_in, display_ranged, widen}
use Rattle.range_code.specs.Ranges.{join_of, on_axis}
use Rattle.dgn_drawing.specs.SpotNumbers.{number_bytes, widened_put}
use Rattle.dgn_drawing.proofs.Places.{in_both, is_line, is_points}
use Rattle.dgn_drawing.proofs.Displays.{length-display}
use Rattle.dgn_drawing.proofs.Looks.{with_body}
use Rattle.dgn_drawing.proofs.RangesPut.{widen_put}
use Rattle.dgn_revision.specs.Revisions.{IsVertex}
use Rattle.dgn_revision.specs.Stretches.{Stretch, stretch_of, spot_stretches}
use Rattle.dgn_revision.specs.Revising.{numbers_put, put_for_each, row_in, row_of_points, parts_pointed, range_at_point, with_vertex}
use Rattle.dgn_revision.specs.RevisionPuts.{number_put, vertex_puts, vertex_fields}
use Rattle.dgn_revision.specs.Laws.{IsRevised, VerticesAreNumbers}
use Rattle.dgn_revision.proofs.PiecesWritten.{Writes, writes_before, writes_behind, writes_as}
use Rattle.dgn_revision.proofs.RevisedBodies.{TurnsBody, revised_body}
use Rattle.dgn_revision.proofs.PointsPut.{spots_from, points_written, points_long, points_good, front_good}

-- a number at a spot has four bytes
number_size : (offset : Bool) (v : ℤ) → length (if offset then range_long_bytes v else long_bytes v) ≡ 4
number_size true v = refl
number_size false v = refl

-- what is put at spots is laid over them
numbers_over : (number : Spot → ℤ) (ss : List Spot)
    → map stretch_of (map (λ s. record { at = s.at; bytes = number_bytes s (number s) }) ss) ≡ spot_stretches ss
numbers_over number [] = refl
numbers_over number (s ∷ ss) =
    ap (λ (n : ℕ). record { at = s.at; len = n } ∷ map stretch_of (map (λ (t : Spot). record { at = t.at; bytes = number_bytes t (number t) }) ss))
    (number_size s.offset (number s))
    ∙ ap (λ (fs : List Stretch). record { at = s.at; len = 4 } ∷ fs) (numbers_over number ss)

-- puts that rise in a stretch rise in one that holds it
span_in : (ps : List Put) (n p q m : ℕ) → n ≤ p → q ≤ m → Span p ps q → Span n ps m
span_in [] n p q m before behind rises = omega (arith, rises)
span_in (r ∷ rs) n p q m before behind rises = (let first = rises.0 in omega arith, span_in rs _ _ q m (omega arith) behind rises.1)

-- where the points of a row begin, behind a display part and, but for a line, a count word
line_start : (kind : ℕ) → (kind == 3) ≡ true → points_start kind ≡ 36
line_start kind is = rw is refl

row_start : (kind : ℕ) → (kind == 3) ≡ false → points_start kind ≡ 38
row_start kind is = rw is refl

module _ (dim : ℕ) (axes : IsDimension dim) (point : List ℤ) (fits : IsPoint 3 point) (e : Element) (i : ℕ) where
  abbrev new : List ℤ
  new = take dim point

  -- the numbers of the points that are put, and their spots
  abbrev numbers : Parts → List ℕ
  numbers parts = numbers_put e.kind (row_in parts) i

  abbrev puts : Parts → List Put
  puts parts = map (number_put point) (spots_from dim (points_start e.kind) (numbers parts))

  -- the parts with the point put
  parts_written : (d : Display) (parts : Parts) (rest : List ℕ) → IsWellFormed dim (with_body e (Shown d parts rest)) → i < length (row_in parts)
      → Writes 36 (parts_bytes parts) (puts parts) (parts_bytes (parts_pointed new (numbers parts) parts))
  unfolding parts_bytes
  parts_written d (Line points) rest good within =
      subst (λ (p : ℕ). Writes 36 (flat_map point_bytes points) (map (number_put point) (spots_from dim p (numbers (Line points))))
      (flat_map point_bytes (put_for_each new (numbers (Line points)) points))) (sym (line_start e.kind (is_line e.kind good.form)))
      (points_written dim axes point fits.long e.kind 36 points i within good.parts.1.1)
  parts_written d (Points points) rest good within =
      let count : List ℕ = word_bytes (length points) in
      let changed : List (List ℤ) = put_for_each new (numbers (Points points)) points in
      subst (λ (p : ℕ). Writes 36 (count ++ flat_map point_bytes points) (map (number_put point) (spots_from dim p (numbers (Points points))))
      (word_bytes (length changed) ++ flat_map point_bytes changed)) (sym (row_start e.kind (is_points e.kind good.form)))
      (writes_as refl (ap (λ (n : ℕ). word_bytes n ++ flat_map point_bytes changed) (sym (points_long new e.kind points i within)))
      (writes_behind 36 38 count (flat_map point_bytes points) (flat_map point_bytes changed)
      (map (number_put point) (spots_from dim 38 (numbers (Points points)))) refl
      (points_written dim axes point fits.long e.kind 38 points i within good.parts.1.1)))
  parts_written d (Text run origin spare chars) rest good within = absurd (omega arith)
  parts_written d (Node total run origin) rest good within = absurd (omega arith)
  parts_written d (Cell total name run origin) rest good within = absurd (omega arith)
  parts_written d (Header total number) rest good within = absurd (omega arith)
  parts_written d Plain rest good within = absurd (omega arith)

  -- they hold their values, have the form that they had, and no total
  parts_good : (parts : Parts) → HasParts dim parts → i < length (row_in parts) → HasParts dim (parts_pointed new (numbers parts) parts)
  parts_good (Line points) good within =
      (points_long new e.kind points i within ∙ good.0, points_good dim new (front_good dim axes point fits) e.kind points i good.1)
  parts_good (Points points) good within =
      (rw (points_long new e.kind points i within) good.0, points_good dim new (front_good dim axes point fits) e.kind points i good.1)
  parts_good (Text run origin spare chars) good within = good
  parts_good (Node total run origin) good within = good
  parts_good (Cell total name run origin) good within = good
  parts_good (Header total number) good within = good
  parts_good Plain good within = good

  parts_form : (v : List ℤ) (ks : List ℕ) (parts : Parts) → form_of_parts (parts_pointed v ks parts) ≡ form_of_parts parts
  parts_form v ks (Line points) = refl
  parts_form v ks (Points points) = refl
  parts_form v ks (Text run origin spare chars) = refl
  parts_form v ks (Node total run origin) = refl
  parts_form v ks (Cell total name run origin) = refl
  parts_form v ks (Header total number) = refl
  parts_form v ks Plain = refl

  parts_total : (v : List ℤ) (ks : List ℕ) (parts : Parts) → total_of_parts (parts_pointed v ks parts) ≡ total_of_parts parts
  parts_total v ks (Line points) = refl
  parts_total v ks (Points points) = refl
  parts_total v ks (Text run origin spare chars) = refl
  parts_total v ks (Node total run origin) = refl
  parts_total v ks (Cell total name run origin) = refl
  parts_total v ks (Header total number) = refl
  parts_total v ks Plain = refl

  module _ (d : Display) (parts : Parts) (rest : List ℕ) (good : IsWellFormed dim (with_body e (Shown d parts rest))) (within : i < length (row_in parts)) where
    abbrev old_body : Body
    old_body = Shown d parts rest

    abbrev new_body : Body
    new_body = Shown d (parts_pointed new (numbers parts) parts) rest

    body_written : Writes 4 (body_bytes old_body) (puts parts) (body_bytes new_body)
    unfolding body_bytes
    body_written =
        writes_behind 4 36 (display_bytes d) (parts_bytes parts ++ rest) (parts_bytes (parts_pointed new (numbers parts) parts) ++ rest) (puts parts)
        (omega (arith, length-display d good.parts.0))
        (writes_before 36 (parts_bytes parts) (parts_bytes (parts_pointed new (numbers parts) parts)) rest (puts parts)
        (parts_written d parts rest good within))

    body_turned : TurnsBody dim e old_body new_body (puts parts) (spot_stretches (spots_from dim (points_start e.kind) (numbers parts)))
    body_turned = record {
      wrote = body_written;
      over = numbers_over (λ (s : Spot). on_axis point s.axis) (spots_from dim (points_start e.kind) (numbers parts));
      parts = (good.parts.0, parts_good parts good.parts.1 within, good.parts.2);
      form = parts_form new (numbers parts) parts;
      total = parts_total new (numbers parts) parts;
      attributes = λ size. λ says. let held = good.attributes says in (rw size held.0, rw size held.1);
    }

    -- the element with the point put
    pub point_put : IsRevised dim (with_body e old_body) (with_body e new_body) (puts parts)
        (spot_stretches (spots_from dim (points_start e.kind) (numbers parts)))
    point_put = revised_body dim e old_body new_body (puts parts) (spot_stretches (spots_from dim (points_start e.kind) (numbers parts))) good body_turned

    -- and the puts stand behind the range
    size-body : size_of (with_body e old_body) ≡ 4 + length (body_bytes old_body)
    unfolding spell
    size-body = omega arith

    pub puts_behind : Span 28 (puts parts) (size_of (with_body e old_body))
    unfolding body_bytes
    puts_behind =
        let wrote = parts_written d parts rest good within in
        let display = length-display d good.parts.0 in
        let long : 36 + length (parts_bytes parts) ≤ size_of (with_body e old_body) =
        omega (arith, size-body, display, length-append (display_bytes d) (parts_bytes parts ++ rest), length-append (parts_bytes parts) rest) in
        span_in (puts parts) 28 36 (36 + length (parts_bytes parts)) (size_of (with_body e old_body)) (omega arith) long wrote.rises

-- the range numbers rise within the first 28 bytes
range_rises : (dim : ℕ) → IsDimension dim → (r : Box3) (b : List ℕ) → Span 0 (map (widened_put r b) (range_spots dim)) 28
range_rises dim axes r b =
    in_both (λ (d : ℕ). Span 0 (map (widened_put r b) (range_spots d)) 28) (omega arith, (omega arith, (omega arith, (omega arith, omega arith))))
    (omega arith, (omega arith, (omega arith, (omega arith, (omega arith, (omega arith, omega arith)))))) axes

range_over : (dim : ℕ) → IsDimension dim → (r : Box3) (b : List ℕ) → map stretch_of (map (widened_put r b) (range_spots dim)) ≡ spot_stretches (range_spots dim)
range_over dim axes r b =
    in_both (λ (d : ℕ). map stretch_of (map (widened_put r b) (range_spots d)) ≡ spot_stretches (range_spots d)) refl refl axes

-- a shown element
shown_vertex : (dim index : ℕ) (point : List ℤ) (e : Element) (b : Body) → IsVertex index point dim → IsWellFormed dim (with_body e b)
    → index ≤ length (row_of_points b)
    → IsRevised dim (with_body e b) (with_vertex dim index point (with_body e b)) (vertex_puts dim index point (with_body e b))
    (vertex_fields dim index (with_body e b))
shown_vertex dim index point e (Silent rest) vertex good within = let some = vertex.counted in absurd (omega arith)
shown_vertex dim index point e (Shown d parts rest) vertex good within =
    let axes = vertex.dimension in
    let fits = vertex.numbers.numbers in
    let i : ℕ = index - 1 in
    let inside : i < length (row_in parts) = let some = vertex.counted in omega arith in
    let old : Element = with_body e (Shown d parts rest) in
    let box : Box3 = range_at_point point in
    let wide = widen_put dim box old d parts rest axes fits fits good refl in
    let ranges : List Put = map (widened_put box (spell old)) (range_spots dim) in
    let wider : Display = display_ranged dim (join_of (range_in d) box) d in
    let put = point_put dim axes point fits e i wider parts rest wide.good inside in
    let spots : List Spot = spots_from dim (points_start e.kind) (numbers_put e.kind (row_in parts) i) in
    let numbers : List Put = map (number_put point) spots in
    let same : size_of (widen dim box old) ≡ size_of old = ap (λ (r : Row). r.size) wide.row in
    let behind = subst (λ (n : ℕ). Span 28 numbers n) same (puts_behind dim axes point fits e i wider parts rest wide.good inside) in
    record {
      spelled = put.spelled ∙ ap (λ (z : List ℕ). write z numbers) wide.spelled ∙ sym (write-append (spell old) ranges numbers);
      rises = span_more 28 (size_of old) ranges numbers 0 (range_rises dim axes box (spell old)) behind;
      over = map-append stretch_of ranges numbers
          ∙ ap (λ (fs : List Stretch). fs ++ map stretch_of numbers) (range_over dim axes box (spell old))
          ∙ ap (λ (fs : List Stretch). spot_stretches (range_spots dim) ++ fs) put.over
          ∙ sym (map-append (λ (s : Spot). record { at = s.at; len = 4 }) (range_spots dim) spots);
      good = put.good;
      row = put.row ∙ wide.row;
    }

-- the law on vertices
pub vertex_put : VerticesAreNumbers
vertex_put dim index point e vertex good within = shown_vertex dim index point e e.body vertex good within
