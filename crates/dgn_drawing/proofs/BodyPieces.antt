-- A body in pieces: its bytes and its numbers are theirs, and the spots of the bytes are where they stand.
use Rattle.std.proofs.Common.{◌≡◌, ℕ, zero, suc, ◌+◌, ◌*◌, ◌≤◌, List, [], ◌∷◌, ◌++◌, length, take, drop, refl, sym, ap, ◌∙◌, subst, append_assoc, Bool}
use Rattle.std.proofs.Common.{true, false, cond, arith, length-append}
use Rattle.std.specs.Prelude.{ℤ, ◌==◌}
use Rattle.std.specs.List.{AllByRecursion, flat_map}
use Rattle.std.proofs.lemmas.Grind.{flat_map-append}
use Rattle.std.proofs.lemmas.List.{append-nil, take-append-drop, length-take-le}
use Rattle.dgn_words.specs.Numbers.{word_at, word_bytes, range_long_bytes}
use Rattle.dgn_layout.specs.declared.types.Class.{Class}
use Rattle.dgn_layout.specs.Classes.{class_of}
use Rattle.dgn_layout.specs.Spots.{fields_from, point_spots, points_spots, Points as Table, points_in as table_of, layout_end, has_spots, spots_with}
use Rattle.dgn_layout.specs.Spots.{spots_of, text_origin, cell_origin, node_origin, HoldsPoints}
use Rattle.dgn_drawing.specs.declared.form.Form.{Form}
use Rattle.dgn_drawing.specs.Forms.{form_in, form_of}
use Rattle.dgn_drawing.specs.Element.{Display, Parts, Line, Points, Text, Node, Cell, Header, Plain, Body, Silent, Shown, form_of_parts, form_of_body}
use Rattle.dgn_drawing.specs.Spelling.{point_bytes, display_bytes, parts_bytes, body_bytes}
use Rattle.dgn_drawing.specs.WellFormed.{IsDimension, IsPoint, HasParts, HasBody, text_run, node_run, cell_run}
use Rattle.dgn_drawing.specs.Changes.{points_in, numbers_in}
use Rattle.dgn_drawing.proofs.BytesAt.{Has, has_first}
use Rattle.dgn_drawing.proofs.Places.{in_both}
use Rattle.dgn_drawing.proofs.Fields.{word_is, length-point_bytes, length-points_bytes}
use Rattle.dgn_drawing.proofs.Displays.{length-corner, length-display}
use Rattle.dgn_drawing.proofs.Pieces.{Piece, Kept, spot, bytes_of, bytes_in, spots_in, values_in, side_by_side, bytes_in-append, spots_in-append}
use Rattle.dgn_drawing.proofs.Pieces.{values_in-append}

-- a corner: its numbers on the file's axes, and the bytes of those that stay
abbrev pub corner_pieces : ℕ → List ℤ → List Piece
corner_pieces dim v = side_by_side true 0 (take dim v) ++ Kept (flat_map range_long_bytes (drop dim v)) ∷ []

-- a point
abbrev pub point_pieces : List ℤ → List Piece
point_pieces v = side_by_side false 0 v

-- points side by side
abbrev pub points_pieces : List (List ℤ) → List Piece
points_pieces [] = []
points_pieces (v ∷ vs) = point_pieces v ++ points_pieces vs

-- the parts
abbrev pub parts_pieces : Parts → List Piece
parts_pieces (Line points) = points_pieces points
parts_pieces (Points points) = Kept (word_bytes (length points)) ∷ points_pieces points
parts_pieces (Text run origin spare chars) = Kept run ∷ (point_pieces origin ++ Kept (length chars ∷ spare ∷ chars) ∷ [])
parts_pieces (Node total run origin) = Kept (word_bytes total) ∷ Kept run ∷ point_pieces origin
parts_pieces (Cell total name run origin) = Kept (word_bytes total) ∷ Kept (flat_map word_bytes name) ∷ Kept run ∷ point_pieces origin
parts_pieces (Header total number) = Kept (word_bytes total) ∷ Kept (word_bytes number) ∷ []
parts_pieces Plain = []

-- the words and the look of the display part
abbrev pub words_and_look : Display → List ℕ
words_and_look d = word_bytes d.group ++ (word_bytes d.index ++ (word_bytes d.properties ++ ((d.style + 8 * d.weight) ∷ d.color ∷ [])))

-- a body with a display part
abbrev pub shown_pieces : ℕ → Display → Parts → List ℕ → List Piece
shown_pieces dim d parts rest =
    corner_pieces dim d.low ++ (corner_pieces dim d.high ++ (Kept (words_and_look d) ∷ (parts_pieces parts ++ Kept rest ∷ [])))

-- the bytes of numbers side by side
bytes_side : (offset : Bool) (axis : ℕ) (v : List ℤ) → bytes_in (side_by_side offset axis v) ≡ flat_map (bytes_of offset) v
bytes_side offset axis [] = refl
bytes_side offset axis (x ∷ xs) = ap (λ l. bytes_of offset x ++ l) (bytes_side offset (axis + 1) xs)

-- a point's bytes
bytes_point : (v : List ℤ) → bytes_in (point_pieces v) ≡ point_bytes v
unfolding bytes_of
bytes_point v = bytes_side false 0 v

-- the bytes of range numbers side by side
bytes_range : (v : List ℤ) → bytes_in (side_by_side true 0 v) ≡ flat_map range_long_bytes v
unfolding bytes_of
bytes_range v = bytes_side true 0 v

-- a corner's bytes are all three of its range numbers
pub bytes_corner : (dim : ℕ) (v : List ℤ) → bytes_in (corner_pieces dim v) ≡ flat_map range_long_bytes v
bytes_corner dim v =
    let behind : List ℕ = flat_map range_long_bytes (drop dim v) in
    rw (bytes_in-append (side_by_side true 0 (take dim v)) (Kept behind ∷ []), bytes_range (take dim v), append-nil behind)
    (sym (flat_map-append range_long_bytes (take dim v) (drop dim v)) ∙ ap (flat_map range_long_bytes) (take-append-drop dim v))

-- the bytes of points side by side
bytes_points : (vs : List (List ℤ)) → bytes_in (points_pieces vs) ≡ flat_map point_bytes vs
bytes_points [] = refl
bytes_points (v ∷ vs) = rw (bytes_in-append (point_pieces v) (points_pieces vs), bytes_point v, bytes_points vs)

-- the parts' bytes
pub bytes_parts : (parts : Parts) → bytes_in (parts_pieces parts) ≡ parts_bytes parts
unfolding parts_bytes
bytes_parts (Line points) = bytes_points points
bytes_parts (Points points) = ap (λ l. word_bytes (length points) ++ l) (bytes_points points)
bytes_parts (Text run origin spare chars) =
    let behind : List ℕ = length chars ∷ spare ∷ chars in
    rw (bytes_in-append (point_pieces origin) (Kept behind ∷ []), bytes_point origin, append-nil behind)
bytes_parts (Node total run origin) = ap (λ l. word_bytes total ++ (run ++ l)) (bytes_point origin)
bytes_parts (Cell total name run origin) = ap (λ l. word_bytes total ++ (flat_map word_bytes name ++ (run ++ l))) (bytes_point origin)
bytes_parts (Header total number) = refl
bytes_parts Plain = refl

-- the bytes of a body with a display part
pub bytes_shown : (dim : ℕ) (d : Display) (parts : Parts) (rest : List ℕ) → bytes_in (shown_pieces dim d parts rest) ≡ body_bytes (Shown d parts rest)
unfolding body_bytes display_bytes
bytes_shown dim d parts rest =
    let behind : List Piece = Kept (words_and_look d) ∷ (parts_pieces parts ++ Kept rest ∷ []) in
    rw (
      bytes_in-append (corner_pieces dim d.low) (corner_pieces dim d.high ++ behind),
      bytes_corner dim d.low,
      bytes_in-append (corner_pieces dim d.high) behind,
      bytes_corner dim d.high,
      bytes_in-append (parts_pieces parts) (Kept rest ∷ []),
      bytes_parts parts,
      append-nil rest,
    )
    (simp append_assoc)

-- the numbers of numbers side by side
values_side : (offset : Bool) (axis : ℕ) (v : List ℤ) → values_in (side_by_side offset axis v) ≡ v
values_side offset axis [] = refl
values_side offset axis (x ∷ xs) = ap (λ l. x ∷ l) (values_side offset (axis + 1) xs)

-- a corner's numbers are those on the file's axes
pub values_corner : (dim : ℕ) (v : List ℤ) → values_in (corner_pieces dim v) ≡ take dim v
values_corner dim v =
    values_in-append (side_by_side true 0 (take dim v)) (Kept (flat_map range_long_bytes (drop dim v)) ∷ [])
    ∙ append-nil (values_in (side_by_side true 0 (take dim v))) ∙ values_side true 0 (take dim v)

-- the numbers of points side by side
values_points : (vs : List (List ℤ)) → values_in (points_pieces vs) ≡ flat_map (λ p. p) vs
values_points [] = refl
values_points (v ∷ vs) = rw (values_in-append (point_pieces v) (points_pieces vs), values_side false 0 v, values_points vs)

-- the parts' numbers are those of their points
values_parts : (parts : Parts) → values_in (parts_pieces parts) ≡ flat_map (λ p. p) (points_in parts)
values_parts (Line points) = values_points points
values_parts (Points points) = values_points points
values_parts (Text run origin spare chars) =
    values_in-append (point_pieces origin) (Kept (length chars ∷ spare ∷ chars) ∷ []) ∙ ap (λ l. l ++ []) (values_side false 0 origin)
values_parts (Node total run origin) = values_side false 0 origin ∙ sym (append-nil origin)
values_parts (Cell total name run origin) = values_side false 0 origin ∙ sym (append-nil origin)
values_parts (Header total number) = refl
values_parts Plain = refl

-- the numbers of a body with a display part
pub values_shown : (dim : ℕ) (d : Display) (parts : Parts) (rest : List ℕ) → values_in (shown_pieces dim d parts rest) ≡ numbers_in dim (Shown d parts rest)
values_shown dim d parts rest =
    let behind : List Piece = Kept (words_and_look d) ∷ (parts_pieces parts ++ Kept rest ∷ []) in
    rw (
      values_in-append (corner_pieces dim d.low) (corner_pieces dim d.high ++ behind),
      values_corner dim d.low,
      values_in-append (corner_pieces dim d.high) behind,
      values_corner dim d.high,
      values_in-append (parts_pieces parts) (Kept rest ∷ []),
      append-nil (values_in (parts_pieces parts)),
      values_parts parts,
    )

-- the spots of numbers side by side
spots_side : (n : ℕ) (v : List ℤ) (offset : Bool) (axis p : ℕ) → length v ≡ n → spots_in p (side_by_side offset axis v) ≡ fields_from offset n axis p
spots_side zero [] offset axis p long = refl
spots_side zero (x ∷ xs) offset axis p long = absurd (omega arith)
spots_side (suc n) [] offset axis p long = absurd (omega arith)
spots_side (suc n) (x ∷ xs) offset axis p long = ap (λ l. spot offset axis p ∷ l) (spots_side n xs offset (axis + 1) (p + 4) (omega arith))

-- the spots of a corner
spots_corner : (dim p : ℕ) (v : List ℤ) → IsDimension dim → length v ≡ 3 → spots_in p (corner_pieces dim v) ≡ fields_from true dim 0 p
spots_corner dim p v axes long =
    let few : dim ≤ length v = rw long (in_both (λ (d : ℕ). d ≤ 3) (omega arith) (omega arith) axes) in
    spots_in-append p (p + length (bytes_in (side_by_side true 0 (take dim v)))) (side_by_side true 0 (take dim v))
    (Kept (flat_map range_long_bytes (drop dim v)) ∷ []) refl
    ∙ append-nil (spots_in p (side_by_side true 0 (take dim v)))
    ∙ spots_side dim (take dim v) true 0 p (length-take-le dim v few)

-- the spots of a point
spots_point : (dim p : ℕ) (v : List ℤ) → IsPoint dim v → spots_in p (point_pieces v) ≡ point_spots dim p
spots_point dim p v good = spots_side dim v false 0 p good.long

-- a point has four bytes for each axis
length-point_pieces : (dim : ℕ) (v : List ℤ) → IsPoint dim v → length (bytes_in (point_pieces v)) ≡ 4 * dim
length-point_pieces dim v good = ap (length {A = ℕ}) (bytes_point v) ∙ length-point_bytes v ∙ ap (λ (n : ℕ). 4 * n) good.long

-- the spots of points side by side
spots_points : (n dim p : ℕ) (vs : List (List ℤ)) → length vs ≡ n → AllByRecursion (IsPoint dim) vs → spots_in p (points_pieces vs) ≡ points_spots n dim p
spots_points zero dim p [] long good = refl
spots_points zero dim p (v ∷ vs) long good = absurd (omega arith)
spots_points (suc n) dim p [] long good = absurd (omega arith)
spots_points (suc n) dim p (v ∷ vs) long good =
    let size = length-point_pieces dim v good.0 in
    spots_in-append p (p + 4 * dim) (point_pieces v) (points_pieces vs) (ap (λ (k : ℕ). p + k) (sym size))
    ∙ ap (λ l. l ++ spots_in (p + 4 * dim) (points_pieces vs)) (spots_point dim p v good.0)
    ∙ ap (λ l. point_spots dim p ++ l) (spots_points n dim (p + 4 * dim) vs (omega arith) good.1)

-- the table of points, by form
abbrev table_as : Form → ℕ → List ℕ → Table
table_as Form.Line dim b = record { count = 2; start = 36 }
table_as Form.Points dim b = record { count = word_at b 36; start = 38 }
table_as Form.Text dim b = record { count = 1; start = text_origin dim }
table_as Form.Node dim b = record { count = 1; start = node_origin dim }
table_as Form.Cell dim b = record { count = 1; start = cell_origin dim }
table_as Form.Header dim b = record { count = 0; start = 40 }
table_as Form.Plain dim b = record { count = 0; start = 36 }
table_as Form.Silent dim b = record { count = 0; start = 4 }

-- the table of a class is that of the form within it
table_in : (c : Class) (dim kind : ℕ) (b : List ℕ) → table_of c dim kind b ≡ table_as (form_in c kind) dim b
table_in Class.Vertices dim kind b = go (kind == 3)
  where
    go : (t : Bool) → cond t (record { count = 2; start = 36 }) (record { count = word_at b 36; start = 38 }) ≡ table_as (cond t Form.Line Form.Points) dim b
    go true = refl
    go false = refl
table_in Class.Words dim kind b = refl
table_in Class.Counted dim kind b = go (kind == 2) (kind == 7)
  where
    go : (s t : Bool) → cond s (record { count = 1; start = cell_origin dim })
        (cond t (record { count = 1; start = node_origin dim }) (record { count = 0; start = 40 }))
        ≡ table_as (cond s Form.Cell (cond t Form.Node Form.Header)) dim b
    go true t = refl
    go false true = refl
    go false false = refl
table_in Class.Run dim kind b = refl
table_in Class.Floating dim kind b = refl
table_in Class.Boxed dim kind b = refl
table_in Class.Silent dim kind b = refl

-- the table of a type, by its form
table_is : (f : Form) (dim kind : ℕ) (b : List ℕ) → form_of kind ≡ f → table_of (class_of kind) dim kind b ≡ table_as f dim b
unfolding form_of
table_is f dim kind b is = table_in (class_of kind) dim kind b ∙ ap (λ (g : Form). table_as g dim b) is

-- where the number of points of a row stands, it is read
abbrev CountSits : List ℕ → Parts → Type 0
CountSits b (Points points) = word_at b 36 ≡ length points
CountSits b other = Unit {0}

-- a text's origin stands behind the run
text_place : {dim : ℕ} → IsDimension dim → text_origin dim ≡ 36 + text_run dim
text_place axes = in_both (λ (d : ℕ). text_origin d ≡ 36 + text_run d) refl refl axes

-- a text node's origin stands behind the total and the run
node_place : {dim : ℕ} → IsDimension dim → node_origin dim ≡ 38 + node_run dim
node_place axes = in_both (λ (d : ℕ). node_origin d ≡ 38 + node_run d) refl refl axes

-- a cell's origin stands behind the total, the name and the run
cell_place : {dim : ℕ} → IsDimension dim → cell_origin dim ≡ 42 + cell_run dim
cell_place axes = in_both (λ (d : ℕ). cell_origin d ≡ 42 + cell_run d) refl refl axes

-- one point
one_point : (dim p r : ℕ) (v : List ℤ) → IsPoint dim v → p ≡ r → spots_in p (point_pieces v) ≡ points_spots 1 dim r
one_point dim p r v good at = spots_point dim p v good ∙ ap (λ (k : ℕ). point_spots dim k) at ∙ sym (append-nil (point_spots dim r))

-- a name has two bytes for each word
length-name : (name : List ℕ) → length (flat_map word_bytes name) ≡ 2 * length name
length-name [] = refl
length-name (w ∷ ws) = omega (arith, length-name ws)

-- the spots of the parts are those of the table
spots_parts : (dim : ℕ) (b : List ℕ) (parts : Parts) → IsDimension dim → HasParts dim parts → CountSits b parts
    → spots_in 36 (parts_pieces parts) ≡ points_spots (table_as (form_of_parts parts) dim b).count dim (table_as (form_of_parts parts) dim b).start
spots_parts dim b (Line points) axes good count = spots_points 2 dim 36 points good.0 good.1
spots_parts dim b (Points points) axes good count = spots_points (word_at b 36) dim 38 points (sym count) good.1
spots_parts dim b (Text run origin spare chars) axes good count =
    let place = text_place axes in
    let long = good.before.long in
    spots_in-append (36 + length run) _ (point_pieces origin) (Kept (length chars ∷ spare ∷ chars) ∷ []) refl
    ∙ append-nil (spots_in (36 + length run) (point_pieces origin))
    ∙ one_point dim (36 + length run) (text_origin dim) origin good.point (omega arith)
spots_parts dim b (Node total run origin) axes good count =
    let place = node_place axes in
    let long = good.before.long in
    one_point dim (38 + length run) (node_origin dim) origin good.point (omega arith)
spots_parts dim b (Cell total name run origin) axes good count =
    let place = cell_place axes in
    let long = good.before.long in
    let words = good.name_long in
    one_point dim (38 + length (flat_map word_bytes name) + length run) (cell_origin dim) origin good.point (omega (arith, length-name name))
spots_parts dim b (Header total number) axes good count = refl
spots_parts dim b Plain axes good count = refl

-- the parts hold their points
holds_parts : (dim : ℕ) (b : List ℕ) (parts : Parts) → IsDimension dim → HasParts dim parts → CountSits b parts
    → layout_end dim (table_as (form_of_parts parts) dim b) ≤ 36 + length (parts_bytes parts)
unfolding parts_bytes
holds_parts dim b (Line points) axes good count =
    let size : length (flat_map point_bytes points) ≡ 4 * dim * 2 = length-points_bytes dim points good.1 ∙ ap (λ (n : ℕ). 4 * dim * n) good.0 in
    omega arith
holds_parts dim b (Points points) axes good count =
    let size : length (flat_map point_bytes points) ≡ 4 * dim * word_at b 36 =
    length-points_bytes dim points good.1 ∙ ap (λ (n : ℕ). 4 * dim * n) (sym count) in
    omega arith
holds_parts dim b (Text run origin spare chars) axes good count =
    let place = text_place axes in
    let long = good.before.long in
    let axes_are = good.point.long in
    omega (
      arith,
      length-point_bytes origin,
      length-append run (point_bytes origin ++ (length chars ∷ spare ∷ chars)),
      length-append (point_bytes origin) (length chars ∷ spare ∷ chars),
    )
holds_parts dim b (Node total run origin) axes good count =
    let place = node_place axes in
    let long = good.before.long in
    let axes_are = good.point.long in
    omega (arith, length-point_bytes origin, length-append run (point_bytes origin))
holds_parts dim b (Cell total name run origin) axes good count =
    let place = cell_place axes in
    let long = good.before.long in
    let axes_are = good.point.long in
    let words = good.name_long in
    omega (
      arith,
      length-name name,
      length-point_bytes origin,
      length-append (flat_map word_bytes name) (run ++ point_bytes origin),
      length-append run (point_bytes origin),
    )
holds_parts dim b (Header total number) axes good count = omega arith
holds_parts dim b Plain axes good count = omega arith

-- a class that has spots has no silent body
not_silent : (c : Class) (kind : ℕ) → has_spots c ≡ true → form_in c kind ≡ Form.Silent → ⊥
not_silent Class.Vertices kind some e = go (kind == 3) e
  where
    go : (t : Bool) → cond t Form.Line Form.Points ≡ Form.Silent → ⊥
    go true e = cc
    go false e = cc
not_silent Class.Words kind some e = cc
not_silent Class.Counted kind some e = go (kind == 2) (kind == 7) e
  where
    go : (s t : Bool) → cond s Form.Cell (cond t Form.Node Form.Header) ≡ Form.Silent → ⊥
    go true t e = cc
    go false true e = cc
    go false false e = cc
not_silent Class.Run kind some e = cc
not_silent Class.Floating kind some e = cc
not_silent Class.Boxed kind some e = cc
not_silent Class.Silent kind some e = cc

-- nor has a type that has spots
not_silent_of : (kind : ℕ) → has_spots (class_of kind) ≡ true → form_of kind ≡ Form.Silent → ⊥
unfolding form_of
not_silent_of kind some e = not_silent (class_of kind) kind some e

-- the spots of a body with a display part
spots_shown : (dim : ℕ) (b : List ℕ) (d : Display) (parts : Parts) (rest : List ℕ) → IsDimension dim → HasBody dim (Shown d parts rest) → CountSits b parts
    → spots_with true dim (table_as (form_of_parts parts) dim b) ≡ spots_in 4 (shown_pieces dim d parts rest)
spots_shown dim b d parts rest axes good count =
    let words : List ℕ = words_and_look d in
    let behind : List Piece = Kept words ∷ (parts_pieces parts ++ Kept rest ∷ []) in
    let table : Table = table_as (form_of_parts parts) dim b in
    let first : length (bytes_in (corner_pieces dim d.low)) ≡ 12 =
    ap (length {A = ℕ}) (bytes_corner dim d.low) ∙ length-corner d.low ∙ ap (λ (n : ℕ). 4 * n) good.0.low.long in
    let second : length (bytes_in (corner_pieces dim d.high)) ≡ 12 =
    ap (length {A = ℕ}) (bytes_corner dim d.high) ∙ length-corner d.high ∙ ap (λ (n : ℕ). 4 * n) good.0.high.long in
    let low = spots_corner dim 4 d.low axes good.0.low.long in
    let high = spots_corner dim 16 d.high axes good.0.high.long in
    let points : spots_in 28 behind ≡ points_spots table.count dim table.start =
    spots_in-append 36 _ (parts_pieces parts) (Kept rest ∷ []) refl ∙ append-nil (spots_in 36 (parts_pieces parts))
    ∙ spots_parts dim b parts axes good.1 count in
    rw (
      spots_in-append 4 16 (corner_pieces dim d.low) (corner_pieces dim d.high ++ behind) (omega arith),
      low,
      spots_in-append 16 28 (corner_pieces dim d.high) behind (omega arith),
      high,
      points,
    )
    (append_assoc (fields_from true dim 0 4) (fields_from true dim 0 16) (points_spots table.count dim table.start))

-- the number of points is read where it is spelled
count_sits : (b : List ℕ) (dim : ℕ) (d : Display) (parts : Parts) (rest : List ℕ) → HasBody dim (Shown d parts rest)
    → Has b 4 (body_bytes (Shown d parts rest)) (length b) → CountSits b parts
unfolding body_bytes parts_bytes
count_sits b dim d (Points points) rest good h =
    let behind = has_first {b = b} {x = display_bytes d} 36 (omega (arith, length-display d good.0)) h in
    let parts = has_first {b = b} {x = word_bytes (length points) ++ flat_map point_bytes points} _ refl behind.1 in
    word_is (has_first {b = b} {x = word_bytes (length points)} 38 refl parts.0).0 good.1.0
count_sits b dim d (Line points) rest good h = tt
count_sits b dim d (Text run origin spare chars) rest good h = tt
count_sits b dim d (Node total run origin) rest good h = tt
count_sits b dim d (Cell total name run origin) rest good h = tt
count_sits b dim d (Header total number) rest good h = tt
count_sits b dim d Plain rest good h = tt

-- a body
abbrev pub body_pieces : ℕ → Body → List Piece
body_pieces dim (Silent rest) = Kept rest ∷ []
body_pieces dim (Shown d parts rest) = shown_pieces dim d parts rest

-- the pieces' bytes are the body's
pub bytes_body : (dim : ℕ) (body : Body) → bytes_in (body_pieces dim body) ≡ body_bytes body
unfolding body_bytes
bytes_body dim (Silent rest) = append-nil rest
bytes_body dim (Shown d parts rest) = bytes_shown dim d parts rest

-- the pieces' numbers are the body's
pub values_body : (dim : ℕ) (body : Body) → values_in (body_pieces dim body) ≡ numbers_in dim body
values_body dim (Silent rest) = refl
values_body dim (Shown d parts rest) = values_shown dim d parts rest

module _ (dim kind : ℕ) (b : List ℕ) (axes : IsDimension dim) (some : has_spots (class_of kind) ≡ true) where
  -- the table's spots of bytes that spell a body are the spots of its pieces
  pub spots_body : (body : Body) → HasBody dim body → form_of kind ≡ form_of_body body → Has b 4 (body_bytes body) (length b)
      → spots_of dim kind b ≡ spots_in 4 (body_pieces dim body)
  spots_body (Silent rest) good form h = absurd (not_silent_of kind some form)
  spots_body (Shown d parts rest) good form h =
      ap (λ (t : Bool). spots_with t dim (table_of (class_of kind) dim kind b)) some
      ∙ ap (spots_with true dim) (table_is (form_of_parts parts) dim kind b form)
      ∙ spots_shown dim b d parts rest axes good (count_sits b dim d parts rest good h)

  -- and the bytes hold the points
  pub holds_body : (body : Body) → HasBody dim body → form_of kind ≡ form_of_body body → Has b 4 (body_bytes body) (length b)
      → length b ≡ 4 + length (body_bytes body) → HoldsPoints dim kind b (length b)
  unfolding body_bytes
  holds_body (Silent rest) good form h size = absurd (not_silent_of kind some form)
  holds_body (Shown d parts rest) good form h size =
      let held = holds_parts dim b parts axes good.1 (count_sits b dim d parts rest good h) in
      let long : 36 + length (parts_bytes parts) ≤ length b =
      omega (arith, length-display d good.0, length-append (display_bytes d) (parts_bytes parts ++ rest), length-append (parts_bytes parts) rest) in
      subst (λ (t : Table). layout_end dim t ≤ length b) (sym (table_is (form_of_parts parts) dim kind b form)) (omega (arith, held))
