-- A displacement that keeps a record on the plane puts sums at its spots, and leaves it well formed.
use Rattle.std.proofs.Common.{◌≡◌, ℕ, ◌/◌, List, [], ◌∷◌, ◌++◌, length, take, drop, map, refl, sym, ap, ◌∙◌, true, arith}
use Rattle.std.specs.Prelude.{ℤ}
use Rattle.std.specs.List.{AllByRecursion, flat_map, list_all}
use Rattle.std.proofs.lemmas.Bool.{and_parts}
use Rattle.std.proofs.lemmas.List.{take-append-drop, length-map}
use Rattle.dgn_words.specs.Numbers.{word_bytes}
use Rattle.dgn_layout.specs.Classes.{class_of}
use Rattle.dgn_layout.specs.Spots.{has_spots, spots_of}
use Rattle.range_code.specs.Plane.{is_on_plane}
use Rattle.range_code.specs.Ranges.{on_axis}
use Rattle.patch_bytes.specs.Puts.{write}
use Rattle.dgn_drawing.specs.Values.{Displacement}
use Rattle.dgn_drawing.specs.Element.{Parts, Line, Points, Text, Node, Cell, Header, Plain, Body, Silent, Shown, Element, form_of_body, rest_of}
use Rattle.dgn_drawing.specs.Spelling.{first_byte, second_byte, body_bytes, spell, size_of}
use Rattle.dgn_drawing.specs.WellFormed.{IsDimension, IsCoordinate, IsPoint, HasParts, HasBody, HasAttributesInPlace, IsWellFormed}
use Rattle.dgn_drawing.specs.SpotNumbers.{displaced_put}
use Rattle.dgn_drawing.specs.Rows.{total_of, row_of}
use Rattle.dgn_drawing.specs.Changes.{displaced, parts_displaced, points_in, numbers_in, body_displaced, shift, stays_on_plane}
use Rattle.dgn_drawing.specs.Laws.{DisplacementsAreSums}
use Rattle.dgn_drawing.proofs.Pieces.{bytes_of, bytes_in, read_in, put_by, write_pieces, length-moved}
use Rattle.dgn_drawing.proofs.BodyPieces.{body_pieces, bytes_body}
use Rattle.dgn_drawing.proofs.MovedPieces.{drop-displaced, length-displaced, moved-body}
use Rattle.dgn_drawing.proofs.SpotValues.{each_of_both, of_each, each_behind, made_of_pieces}

-- numbers that pass the test lie on the plane
each_passes : (xs : List ℤ) → list_all is_on_plane xs ≡ true → AllByRecursion IsCoordinate xs
each_passes [] all = tt
each_passes (x ∷ xs) all = let two = and_parts (is_on_plane x) (list_all is_on_plane xs) all in (two.0, each_passes xs two.1)

-- the body has the form that it had
form-displaced : (ds : List ℤ) (body : Body) → form_of_body (body_displaced ds body) ≡ form_of_body body
form-displaced ds (Silent rest) = refl
form-displaced ds (Shown d (Line points) rest) = refl
form-displaced ds (Shown d (Points points) rest) = refl
form-displaced ds (Shown d (Text run origin spare chars) rest) = refl
form-displaced ds (Shown d (Node total run origin) rest) = refl
form-displaced ds (Shown d (Cell total name run origin) rest) = refl
form-displaced ds (Shown d (Header total number) rest) = refl
form-displaced ds (Shown d Plain rest) = refl

-- and the rest
rest-displaced : (ds : List ℤ) (body : Body) → rest_of (body_displaced ds body) ≡ rest_of body
rest-displaced ds (Silent rest) = refl
rest-displaced ds (Shown d parts rest) = refl

-- and the total
total-displaced : (ds : List ℤ) (body : Body) → total_of (body_displaced ds body) ≡ total_of body
total-displaced ds (Silent rest) = refl
total-displaced ds (Shown d (Line points) rest) = refl
total-displaced ds (Shown d (Points points) rest) = refl
total-displaced ds (Shown d (Text run origin spare chars) rest) = refl
total-displaced ds (Shown d (Node total run origin) rest) = refl
total-displaced ds (Shown d (Cell total name run origin) rest) = refl
total-displaced ds (Shown d (Header total number) rest) = refl
total-displaced ds (Shown d Plain rest) = refl

-- attribute data stay in their place where the size and the rest stay
attributes-displaced : (ds : List ℤ) (x e : Element) (body : Body) → size_of x ≡ size_of e → rest_of x.body ≡ rest_of e.body → HasAttributesInPlace e body
    → HasAttributesInPlace x (body_displaced ds body)
attributes-displaced ds x e (Silent rest) size same held = tt
attributes-displaced ds x e (Shown d parts rest) size same held = λ says.
    let two = held says in (rw (size, same) two.0, rw size two.1)

module _ (dim : ℕ) (by : List ℤ) where
  -- a corner that stays on the plane along the file's axes is one: along the others nothing is added
  corner_good : (v : List ℤ) → IsPoint 3 v → AllByRecursion IsCoordinate (take dim (displaced (take dim by) v)) → IsPoint 3 (displaced (take dim by) v)
  corner_good v good front = record {
    long = length-displaced (take dim by) v ∙ good.long;
    on_plane = rw (take-append-drop dim (displaced (take dim by) v)) at
        (each_of_both (take dim (displaced (take dim by) v)) (drop dim (displaced (take dim by) v)) front
        (rw (drop-displaced dim by v) (each_behind dim v good.on_plane)));
  }

  -- a point whose displaced numbers lie on the plane is one
  point_good : (v : List ℤ) → IsPoint dim v → AllByRecursion IsCoordinate (displaced (take dim by) v ++ []) → IsPoint dim (displaced (take dim by) v)
  point_good v good on = record { long = length-displaced (take dim by) v ∙ good.long; on_plane = (of_each (displaced (take dim by) v) [] on).0 }

  -- and so are points side by side
  points_good : (vs : List (List ℤ)) → AllByRecursion (IsPoint dim) vs → AllByRecursion IsCoordinate (flat_map (λ p. p) (map (displaced (take dim by)) vs))
      → AllByRecursion (IsPoint dim) (map (displaced (take dim by)) vs)
  points_good [] good on = tt
  points_good (v ∷ vs) good on =
      let two = of_each (displaced (take dim by) v) (flat_map (λ p. p) (map (displaced (take dim by)) vs)) on in
      (record { long = length-displaced (take dim by) v ∙ good.0.long; on_plane = two.0 }, points_good vs good.1 two.1)

  -- and the parts hold their values
  parts_good : (parts : Parts) → HasParts dim parts → AllByRecursion IsCoordinate (flat_map (λ p. p) (points_in (parts_displaced (take dim by) parts)))
      → HasParts dim (parts_displaced (take dim by) parts)
  parts_good (Line points) good on = (length-map points (displaced (take dim by)) ∙ good.0, points_good points good.1 on)
  parts_good (Points points) good on = (rw (length-map points (displaced (take dim by))) good.0, points_good points good.1 on)
  parts_good (Text run origin spare chars) good on =
      record { before = good.before; point = point_good origin good.point on; byte = good.byte; few = good.few; bytes = good.bytes }
  parts_good (Node total run origin) good on = record { word = good.word; before = good.before; point = point_good origin good.point on }
  parts_good (Cell total name run origin) good on =
      record { word = good.word; name_long = good.name_long; name_words = good.name_words; before = good.before; point = point_good origin good.point on }
  parts_good (Header total number) good on = good
  parts_good Plain good on = good

  -- a body whose displaced numbers lie on the plane holds its values
  body_good : (body : Body) → HasBody dim body → AllByRecursion IsCoordinate (numbers_in dim (body_displaced (take dim by) body))
      → HasBody dim (body_displaced (take dim by) body)
  body_good (Silent rest) good on = good
  body_good (Shown d parts rest) good on =
      let low = of_each (take dim (displaced (take dim by) d.low)) _ on in
      let high = of_each (take dim (displaced (take dim by) d.high)) _ low.1 in (
        record {
          low = corner_good d.low good.0.low low.0;
          high = corner_good d.high good.0.high high.0;
          group = good.0.group;
          index = good.0.index;
          properties = good.0.properties;
          style = good.0.style;
          weight = good.0.weight;
          color = good.0.color;
        },
        parts_good parts good.1 high.1,
        good.2,
      )

  -- and has as many bytes
  length-displaced_body : (body : Body) → HasBody dim body → length (body_bytes (body_displaced (take dim by) body)) ≡ length (body_bytes body)
  length-displaced_body body good =
      rw (← bytes_body dim (body_displaced (take dim by) body), ← moved-body dim by body good, ← bytes_body dim body)
      (length-moved (on_axis by) (body_pieces dim body))

-- the first four bytes, where so many words follow
front : Element → ℕ → List ℕ
front e words = first_byte e ∷ second_byte e ∷ word_bytes words

module _ (dim : ℕ) (by : Displacement) (e : Element) (axes : IsDimension dim) (good : IsWellFormed dim e) where
  -- the displaced record's body has as many bytes
  size_bytes : length (body_bytes (shift dim by e).body) ≡ length (body_bytes e.body)
  size_bytes = length-displaced_body dim by.by e.body good.parts

  -- the size stays
  pub size-shift : size_of (shift dim by e) ≡ size_of e
  unfolding spell
  size-shift = omega (arith, size_bytes)

  -- a displacement keeps what the nesting looks at
  pub row-shift : row_of (shift dim by e) ≡ row_of e
  row-shift = rw (size-shift, total-displaced (take dim by.by) e.body)

  -- a record that stays on the plane stays well formed
  pub shift_good : stays_on_plane dim by e ≡ true → IsWellFormed dim (shift dim by e)
  unfolding spell
  shift_good stays = record {
    level = good.level;
    kind = good.kind;
    form = good.form ∙ sym (form-displaced (take dim by.by) e.body);
    parts = body_good dim by.by e.body good.parts (each_passes (numbers_in dim (shift dim by e).body) stays);
    even = rw size-shift good.even;
    small = rw size-shift good.small;
    no_mark = good.no_mark;
    attributes = attributes-displaced (take dim by.by) (shift dim by e) e e.body size-shift (rest-displaced (take dim by.by) e.body) good.attributes;
  }

  -- the first four bytes and the body behind them, in pieces
  spell-front : (x : Element) (words : ℕ) → length (body_bytes x.body) / 2 ≡ words → spell x ≡ front x words ++ bytes_in (body_pieces dim x.body)
  unfolding spell front
  spell-front x words is = rw (is, bytes_body dim x.body)

  -- what is put at the spots is put at the places of the pieces' numbers
  puts-pieces : has_spots (class_of e.kind) ≡ true
      → map (displaced_put by (spell e)) (spots_of dim e.kind (spell e)) ≡ read_in (put_by (on_axis by.by)) 4 (body_pieces dim e.body)
  unfolding bytes_of
  puts-pieces some = made_of_pieces dim e axes good some (put_by (on_axis by.by))

  -- the sums put at the spots spell the displaced record
  pub spell-shift : has_spots (class_of e.kind) ≡ true
      → spell (shift dim by e) ≡ write (spell e) (map (displaced_put by (spell e)) (spots_of dim e.kind (spell e)))
  unfolding front
  spell-shift some =
      let words : ℕ = length (body_bytes e.body) / 2 in
      rw (
        spell-front (shift dim by e) words (ap (λ (n : ℕ). n / 2) size_bytes),
        ← moved-body dim by.by e.body good.parts,
        puts-pieces some,
        spell-front e words refl,
      )
      (sym (write_pieces (on_axis by.by) (body_pieces dim e.body) (front e words) 4 refl))

-- the law on displacements
pub shift_put : DisplacementsAreSums
shift_put dim by e axes good some stays = record {
  spelled = spell-shift dim by e axes good some;
  good = shift_good dim by e axes good stays;
  row = row-shift dim by e axes good;
}
