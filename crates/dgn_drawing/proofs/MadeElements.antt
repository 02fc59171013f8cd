-- An element that is made of what its type keeps is well formed in its own dimension, and as large as the tables
-- say.
use Rattle.std.proofs.Common.{◌≡◌, ℕ, zero, suc, ◌+◌, ◌*◌, ◌/◌, ◌%◌, ◌<◌, ◌≤◌, List, [], ◌∷◌, ◌++◌, length, take, map, refl, ap, ◌∙◌, Bool, true, false}
use Rattle.std.proofs.Common.{cond, arith, length-append}
use Rattle.std.specs.Prelude.{ℤ, pos, ◌==◌, ◌&&◌}
use Rattle.std.specs.Int.{int_min, int_max, w32, cast_unsigned}
use Rattle.std.specs.List.{AllByRecursion, flat_map}
use Rattle.std.proofs.lemmas.List.{length-map}
use Rattle.std.proofs.lemmas.List.Elements.{All-nil, All-cons, All-append}
use Rattle.std.proofs.lemmas.Bool.Decides.{nat_tests}
use Rattle.dgn_words.specs.Numbers.{word_bytes, long_bytes}
use Rattle.range_code.specs.Ranges.{on_axis, least_corner, greatest_corner}
use Rattle.dgn_layout.specs.Ends.{chars_start}
use Rattle.dgn_drawing.specs.declared.new_shape.NewShape.{NewShape}
use Rattle.dgn_drawing.specs.declared.new_shape.NewShape.TheVariants as shapes
use Rattle.dgn_drawing.specs.declared.form.Form.{Form}
use Rattle.dgn_drawing.specs.Forms.{form_of}
use Rattle.dgn_drawing.specs.Element.{Parts, Points, form_of_parts}
use Rattle.dgn_drawing.specs.Spelling.{first_byte, second_byte, point_bytes, display_bytes, parts_bytes, body_bytes, spell, size_of}
use Rattle.dgn_drawing.specs.WellFormed.{IsDimension, IsBytes, IsRun, IsCoordinate, IsPoint, IsDisplay, HasParts, IsWellFormed, text_run}
use Rattle.dgn_drawing.specs.NewElements.{NewElement, IsPointFor, ArePoints, IsNewText, IsShapeFor, IsNew, kind_made, points_given, lowest_from}
use Rattle.dgn_drawing.specs.NewElements.{highest_from, lowest, highest, size_made, turn_bytes, run_made, parts_made, rest_made, display_made, element_made}
use Rattle.dgn_drawing.specs.Laws.{MadeElementsAreWellFormed}
use Rattle.dgn_drawing.proofs.Places.{in_both}
use Rattle.dgn_drawing.proofs.Fields.{length-point_bytes, length-points_bytes}
use Rattle.dgn_drawing.proofs.Displays.{length-display}
use Rattle.dgn_drawing.proofs.SpotValues.{each_in_front}

-- the bytes of a word are below 256
pub word_bytes_good : (v : ℕ) → IsBytes (word_bytes v)
word_bytes_good v =
    All-cons (λ x. x < 256) (v % 256) (v / 256 % 256 ∷ []) (omega arith)
    (All-cons (λ x. x < 256) (v / 256 % 256) [] (omega arith) (All-nil (λ x. x < 256)))

-- and those of a long
pub long_bytes_good : (v : ℤ) → IsBytes (long_bytes v)
long_bytes_good v =
    let u : ℕ = cast_unsigned w32 v in
    All-append (λ x. x < 256) (word_bytes (u / 65536)) (word_bytes (u % 65536)) (word_bytes_good (u / 65536)) (word_bytes_good (u % 65536))

-- and those of longs side by side
pub longs_bytes_good : (vs : List ℤ) → IsBytes (flat_map long_bytes vs)
longs_bytes_good [] = All-nil (λ x. x < 256)
longs_bytes_good (v ∷ vs) = All-append (λ x. x < 256) (long_bytes v) (flat_map long_bytes vs) (long_bytes_good v) (longs_bytes_good vs)

-- one of two coordinates is a coordinate
either_good : (t : Bool) (x y : ℤ) → IsCoordinate x → IsCoordinate y → IsCoordinate (cond t y x)
either_good true x y one two = two
either_good false x y one two = one

lesser_good : (x y : ℤ) → IsCoordinate x → IsCoordinate y → IsCoordinate (int_min x y)
lesser_good x y one two = either_good _ x y one two

greater_good : (x y : ℤ) → IsCoordinate x → IsCoordinate y → IsCoordinate (int_max x y)
greater_good x y one two = either_good _ y x two one

-- the number of a corner on any axis lies on the plane
on_axis_good : (p : List ℤ) (axis : ℕ) → AllByRecursion IsCoordinate p → IsCoordinate (on_axis p axis)
on_axis_good [] axis all = refl
on_axis_good (x ∷ xs) zero all = all.0
on_axis_good (x ∷ xs) (suc axis) all = on_axis_good xs axis all.1

-- the least and the greatest coordinates of two points are points
pub least_good : (p q : List ℤ) → IsPoint 3 p → IsPoint 3 q → IsPoint 3 (least_corner p q)
least_good p q one two =
    let each : (axis : ℕ) → IsCoordinate (int_min (on_axis p axis) (on_axis q axis)) =
    λ axis. lesser_good (on_axis p axis) (on_axis q axis) (on_axis_good p axis one.on_plane) (on_axis_good q axis two.on_plane) in
    record { long = refl; on_plane = (each 0, (each 1, (each 2, tt))) }

pub greatest_good : (p q : List ℤ) → IsPoint 3 p → IsPoint 3 q → IsPoint 3 (greatest_corner p q)
greatest_good p q one two =
    let each : (axis : ℕ) → IsCoordinate (int_max (on_axis p axis) (on_axis q axis)) =
    λ axis. greater_good (on_axis p axis) (on_axis q axis) (on_axis_good p axis one.on_plane) (on_axis_good q axis two.on_plane) in
    record { long = refl; on_plane = (each 0, (each 1, (each 2, tt))) }

module _ (axes : ℕ) where
  -- the least and the greatest coordinates of a first point and others are points
  lowest_from_good : (p : List ℤ) (ps : List (List ℤ)) → IsPointFor axes p → AllByRecursion (IsPointFor axes) ps → IsPoint 3 (lowest_from p ps)
  lowest_from_good p [] one more = one.numbers
  lowest_from_good p (q ∷ qs) one more = least_good p (lowest_from q qs) one.numbers (lowest_from_good q qs more.0 more.1)

  highest_from_good : (p : List ℤ) (ps : List (List ℤ)) → IsPointFor axes p → AllByRecursion (IsPointFor axes) ps → IsPoint 3 (highest_from p ps)
  highest_from_good p [] one more = one.numbers
  highest_from_good p (q ∷ qs) one more = greatest_good p (highest_from q qs) one.numbers (highest_from_good q qs more.0 more.1)

  -- and those of points
  lowest_good : (ps : List (List ℤ)) → 1 ≤ length ps → AllByRecursion (IsPointFor axes) ps → IsPoint 3 (lowest ps)
  lowest_good [] some each = absurd (omega arith)
  lowest_good (p ∷ ps) some each = lowest_from_good p ps each.0 each.1

  highest_good : (ps : List (List ℤ)) → 1 ≤ length ps → AllByRecursion (IsPointFor axes) ps → IsPoint 3 (highest ps)
  highest_good [] some each = absurd (omega arith)
  highest_good (p ∷ ps) some each = highest_from_good p ps each.0 each.1

-- the front of three numbers
length-front : {axes : ℕ} → IsDimension axes → (p : List ℤ) → length p ≡ 3 → length (take axes p) ≡ axes
length-front axes [] long = absurd (omega arith)
length-front axes (x ∷ []) long = absurd (omega arith)
length-front axes (x ∷ y ∷ []) long = absurd (omega arith)
length-front axes (x ∷ y ∷ z ∷ w ∷ more) long = absurd (omega arith)
length-front axes (x ∷ y ∷ z ∷ []) long = in_both (λ (d : ℕ). length (take d (x ∷ y ∷ z ∷ [])) ≡ d) refl refl axes

-- a point's numbers on the file's axes are a point of the file's
point_front : {axes : ℕ} → IsDimension axes → (p : List ℤ) → IsPointFor axes p → IsPoint axes (take axes p)
point_front {axes} dimension p good = record {
  long = length-front dimension p good.numbers.long;
  on_plane = each_in_front axes p good.numbers.on_plane;
}

points_front : {axes : ℕ} → IsDimension axes → (ps : List (List ℤ)) → AllByRecursion (IsPointFor axes) ps → AllByRecursion (IsPoint axes) (map (take axes) ps)
points_front dimension [] each = tt
points_front dimension (p ∷ ps) each = (point_front dimension p each.0, points_front dimension ps each.1)

-- what is known of an element that is made of its type, its parts, what makes its size even, its size and its points
pub record IsMade (axes kind : ℕ) (parts : Parts) (rest : List ℕ) (size : ℕ) (points : List (List ℤ)) : Type 0 where
  pub kind_small : kind < 128
  pub form : form_of kind ≡ form_of_parts parts
  pub parts_good : HasParts axes parts
  pub rest_good : IsBytes rest
  pub long : 36 + (length (parts_bytes parts) + length rest) ≡ size
  pub even : size % 2 ≡ 0
  pub small : size ≤ 2000
  pub low : IsPoint 3 (lowest points)
  pub high : IsPoint 3 (highest points)

-- and of one that is made of a shape
abbrev pub IsShapeMade : ℕ → NewShape → Type 0
IsShapeMade axes shape = IsMade axes (kind_made shape) (parts_made axes shape) (rest_made shape) (size_made axes shape) (points_given shape)

-- a row of at most 101 points has at most 1250 bytes
row_small : {axes : ℕ} → IsDimension axes → (n : ℕ) → n ≤ 101 → 38 + 4 * axes * n ≤ 2000
row_small axes n few = in_both (λ (d : ℕ). 38 + 4 * d * n ≤ 2000) (omega arith) (omega arith) axes

-- the run of a text
run_good : {axes : ℕ} (font just : ℕ) (text_length text_height : ℤ) → IsDimension axes → font < 256 → just < 256
    → IsRun (text_run axes) (run_made axes font just text_length text_height)
run_good font just text_length text_height axes one two =
    let numbers : (turn : List ℕ) → IsBytes turn → IsBytes (font ∷ just ∷ (long_bytes text_length ++ (long_bytes text_height ++ turn))) =
    λ turn good.
    let rest : List ℕ = long_bytes text_length ++ (long_bytes text_height ++ turn) in
    All-cons (λ x. x < 256) font (just ∷ rest) one (All-cons (λ x. x < 256) just rest two
    (All-append (λ x. x < 256) (long_bytes text_length) (long_bytes text_height ++ turn) (long_bytes_good text_length)
    (All-append (λ x. x < 256) (long_bytes text_height) turn (long_bytes_good text_height) good))) in
    in_both (λ (d : ℕ). IsRun (text_run d) (run_made d font just text_length text_height))
    (record { long = refl; bytes = numbers (turn_bytes 2) (long_bytes_good (pos 0)) })
    (record { long = refl; bytes = numbers (turn_bytes 3) (longs_bytes_good (pos 2147483647 ∷ pos 0 ∷ pos 0 ∷ pos 0 ∷ [])) })
    axes

-- the byte that makes a size even
padding_of : ℕ → List ℕ
padding_of m = cond (m == 0) [] (0 ∷ [])

padding_long : (m : ℕ) → m < 2 → length (padding_of m) ≡ m
unfolding padding_of
padding_long zero small = refl
padding_long (suc zero) small = refl
padding_long (suc (suc m)) small = absurd (omega arith)

length-padding : (n : ℕ) → length {A = ℕ} (cond (n % 2 == 0) [] (0 ∷ [])) ≡ n % 2
unfolding padding_of
length-padding n = padding_long (n % 2) (omega arith)

padding_good : (t : Bool) → IsBytes (cond t [] (0 ∷ []))
padding_good true = All-nil (λ x. x < 256)
padding_good false = All-cons (λ x. x < 256) 0 [] (omega arith) (All-nil (λ x. x < 256))

-- what stands before a text's characters
chars_place : {axes : ℕ} → IsDimension axes → 38 + text_run axes + 4 * axes ≡ chars_start axes
chars_place axes = in_both (λ (d : ℕ). 38 + text_run d + 4 * d ≡ chars_start d) refl refl axes

chars_place_small : {axes : ℕ} → IsDimension axes → (chars_start axes ≤ 76) × (chars_start axes % 2 ≡ 0)
chars_place_small axes = in_both (λ (d : ℕ). (chars_start d ≤ 76) × (chars_start d % 2 ≡ 0)) (omega arith, refl) (omega arith, refl) axes

module _ (axes : ℕ) (dimension : IsDimension axes) where
  -- a line
  line_made : (points : List (List ℤ)) → ArePoints axes 2 2 points → IsShapeMade axes (shapes.Line points)
  unfolding parts_bytes form_of
  line_made points good =
      let enough = good.enough in
      let few = good.few in
      let two : length (map (take axes) points) ≡ 2 = length-map points (take axes) ∙ omega arith in
      let front = points_front dimension points good.each in
      let long : length (flat_map point_bytes (map (take axes) points)) ≡ 4 * axes * 2 =
      length-points_bytes axes (map (take axes) points) front ∙ ap (λ (n : ℕ). 4 * axes * n) two in
      record {
        kind_small = omega arith;
        form = refl;
        parts_good = (two, front);
        rest_good = All-nil (λ x. x < 256);
        long = omega arith;
        even = omega arith;
        small = in_both (λ (d : ℕ). 36 + 8 * d ≤ 2000) (omega arith) (omega arith) dimension;
        low = lowest_good axes points (omega arith) good.each;
        high = highest_good axes points (omega arith) good.each;
      }

  -- the parts of a row of points
  row_long : (points : List (List ℤ)) → AllByRecursion (IsPointFor axes) points
      → length (flat_map point_bytes (map (take axes) points)) ≡ 4 * axes * length points
  row_long points each =
      length-points_bytes axes (map (take axes) points) (points_front dimension points each) ∙ ap (λ (n : ℕ). 4 * axes * n) (length-map points (take axes))

  -- a row of points, of a chain's type or a shape's
  row_made : {least : ℕ} (kind : ℕ) (points : List (List ℤ)) → kind < 128 → form_of kind ≡ Form.Points → 2 ≤ least → ArePoints axes least 101 points
      → IsMade axes kind (Points (map (take axes) points)) [] (38 + 4 * axes * length points) points
  unfolding parts_bytes
  row_made kind points small form two good =
      let enough = good.enough in
      let few = good.few in
      let long = row_long points good.each in
      record {
        kind_small = small;
        form = form;
        parts_good = (rw (length-map points (take axes)) (omega arith), points_front dimension points good.each);
        rest_good = All-nil (λ x. x < 256);
        long = omega arith;
        even = omega arith;
        small = row_small dimension (length points) few;
        low = lowest_good axes points (omega arith) good.each;
        high = highest_good axes points (omega arith) good.each;
      }

  -- a text
  text_made : (font just : ℕ) (text_length text_height : ℤ) (origin : List ℤ) (chars : List ℕ)
      → IsNewText axes font just text_length text_height origin chars
      → IsShapeMade axes (shapes.Text font just text_length text_height origin chars)
  unfolding parts_bytes form_of
  text_made font just text_length text_height origin chars good =
      let run = run_good font just text_length text_height dimension good.font_byte good.just_byte in
      let point = point_front dimension origin good.point in
      let place = chars_place dimension in
      let small = chars_place_small dimension in
      let few = good.few in
      let padding = length-padding (length chars) in
      let before = run.long in
      let numbers : length (point_bytes (take axes origin)) ≡ 4 * axes = length-point_bytes (take axes origin) ∙ ap (λ (n : ℕ). 4 * n) point.long in
      let all : length (run_made axes font just text_length text_height ++ (point_bytes (take axes origin) ++ (length chars ∷ 0 ∷ chars)))
      ≡ text_run axes + (4 * axes + (2 + length chars)) =
      length-append (run_made axes font just text_length text_height) _
      ∙ omega (arith, length-append (point_bytes (take axes origin)) (length chars ∷ 0 ∷ chars)) in
      record {
        kind_small = omega arith;
        form = refl;
        parts_good = record { before = run; point = point; byte = omega arith; few = few; bytes = good.bytes };
        rest_good = padding_good (length chars % 2 == 0);
        long = omega arith;
        even = omega arith;
        small = omega arith;
        low = lowest_good axes (origin ∷ []) (omega arith) (good.point, tt);
        high = highest_good axes (origin ∷ []) (omega arith) (good.point, tt);
      }

  -- each of the four
  pub each_made : (shape : NewShape) → IsShapeFor axes shape → IsShapeMade axes shape
  unfolding form_of
  each_made (shapes.Line points) good = line_made points good
  each_made (shapes.Chain points) good = row_made 4 points (omega arith) refl (omega arith) good
  each_made (shapes.Shape points) good = row_made 6 points (omega arith) refl (omega arith) good
  each_made (shapes.Text font just text_length text_height origin chars) good = text_made font just text_length text_height origin chars good

-- two bytes of which the first isn't FF are no mark of the end
first_differs : (x y : ℕ) → x < 255 → (x == 255 && y == 255) ≡ false
first_differs x y small = grind (arith, nat_tests)

-- its display part holds its values
pub display_good : (new : NewElement) → IsNew new → IsDisplay (display_made new)
display_good new good =
    let shape = each_made new.axes good.axes new.shape good.shape in
    let small = shape.small in
    record {
      low = shape.low;
      high = shape.high;
      group = omega arith;
      index = omega arith;
      properties = omega arith;
      style = good.style;
      weight = good.weight;
      color = good.color;
    }

-- its size is that of the tables
pub size-made : (new : NewElement) → IsNew new → size_of (element_made new) ≡ size_made new.axes new.shape
unfolding spell body_bytes
size-made new good =
    let shape = each_made new.axes good.axes new.shape good.shape in
    let display : length (display_bytes (display_made new)) ≡ 32 = length-display (display_made new) (display_good new good) in
    let parts = shape.long in
    let two = length-append (display_bytes (display_made new)) (parts_bytes (parts_made new.axes new.shape) ++ rest_made new.shape) in
    let three = length-append (parts_bytes (parts_made new.axes new.shape)) (rest_made new.shape) in
    omega arith

-- and it is well formed in its own dimension
pub made_well_formed : (new : NewElement) → IsNew new → IsWellFormed new.axes (element_made new)
unfolding spell
made_well_formed new good =
    let shape = each_made new.axes good.axes new.shape good.shape in
    let size = size-made new good in
    let level = good.level in
    let small = shape.small in
    record {
      level = level;
      kind = shape.kind_small;
      form = shape.form;
      parts = (display_good new good, shape.parts_good, shape.rest_good);
      even = rw size shape.even;
      small = rw size (omega arith);
      no_mark = first_differs (first_byte (element_made new)) (second_byte (element_made new)) (omega arith);
      attributes = λ says. absurd (cc);
    }

-- the law on elements that are made
pub made_good : MadeElementsAreWellFormed
made_good new good = record { good = made_well_formed new good; size = size-made new good }
