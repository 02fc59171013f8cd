-- An element that is to be appended: what a contract sees of it, what its type keeps, and the element that is
-- made of it. What isn't given is 0 but for the range, the attribute index, the rotation of a text in three axes
-- and the byte that makes its size even.
use Rattle.std.specs.Prelude.{ℕ, ◌≡◌, ◌+◌, ◌-◌, ◌*◌, ◌/◌, ◌%◌, ◌==◌, ◌<◌, ◌≤◌, false, if◌then◌else◌, ℤ, pos, ◌≤ℤ◌, List, [], ◌∷◌, ◌++◌, length, map, take}
use Rattle.std.specs.List.{AllByRecursion, flat_map}
use Rattle.elem_head.specs.declared.types.Symb.{Symb}
use Rattle.dgn_words.specs.Numbers.{long_bytes}
use Rattle.range_code.specs.Ranges.{on_axis, least_corner, greatest_corner}
use Rattle.dgn_layout.specs.Ends.{chars_start}
use Rattle.dgn_drawing.specs.declared.new_shape.NewShape.{NewShape}
use Rattle.dgn_drawing.specs.declared.new_shape.NewShape.TheVariants as shapes
use Rattle.dgn_drawing.specs.WellFormed.{IsDimension, IsBytes, IsCoordinate, IsPoint}
use Rattle.dgn_drawing.specs.Element.{Display, Parts, Line, Points, Text, Shown, Element}

-- the element: its level and look, for how many axes it is given, and what it is
pub record NewElement : Type 0 where
  pub level : ℕ
  pub symb : Symb
  pub axes : ℕ
  pub shape : NewShape

-- a point for that many axes: three numbers of the design plane, of which z is 0 where there are two
pub record IsPointFor (axes : ℕ) (point : List ℤ) : Type 0 where
  pub numbers : IsPoint 3 point
  pub flat : axes ≡ 2 → on_axis point 2 ≡ pos 0

-- at least and at most so many points
pub record ArePoints (axes least most : ℕ) (points : List (List ℤ)) : Type 0 where
  pub enough : least ≤ length points
  pub few : length points ≤ most
  pub each : AllByRecursion (IsPointFor axes) points

-- the fields of a text hold their values
pub record IsNewText (axes font just : ℕ) (text_length text_height : ℤ) (origin : List ℤ) (chars : List ℕ) : Type 0 where
  pub font_byte : font < 256
  pub just_byte : just < 256
  pub length_long : IsCoordinate text_length
  pub length_up : pos 0 ≤ℤ text_length
  pub height_long : IsCoordinate text_height
  pub height_up : pos 0 ≤ℤ text_height
  pub point : IsPointFor axes origin
  pub some : 1 ≤ length chars
  pub few : length chars ≤ 255
  pub bytes : IsBytes chars

-- a line has two points, a chain 2 to 101, a shape 3 to 101, a text 1 to 255 characters
abbrev pub IsShapeFor : ℕ → NewShape → Type 0
IsShapeFor axes (shapes.Line points) = ArePoints axes 2 2 points
IsShapeFor axes (shapes.Chain points) = ArePoints axes 2 101 points
IsShapeFor axes (shapes.Shape points) = ArePoints axes 3 101 points
IsShapeFor axes (shapes.Text font just text_length text_height origin chars) = IsNewText axes font just text_length text_height origin chars

-- what its type keeps of an element that is to be appended
pub record IsNew (new : NewElement) : Type 0 where
  pub level : new.level < 64
  pub color : new.symb.color < 256
  pub weight : new.symb.weight < 32
  pub style : new.symb.style < 8
  pub axes : IsDimension new.axes
  pub shape : IsShapeFor new.axes new.shape

-- its type
abbrev pub kind_made : NewShape → ℕ
kind_made (shapes.Line points) = 3
kind_made (shapes.Chain points) = 4
kind_made (shapes.Shape points) = 6
kind_made (shapes.Text font just text_length text_height origin chars) = 17

-- its points: those that are given, or the origin
abbrev pub points_given : NewShape → List (List ℤ)
points_given (shapes.Line points) = points
points_given (shapes.Chain points) = points
points_given (shapes.Shape points) = points
points_given (shapes.Text font just text_length text_height origin chars) = origin ∷ []

-- the least and the greatest coordinates of a first point and others
abbrev pub lowest_from : List ℤ → List (List ℤ) → List ℤ
lowest_from p [] = p
lowest_from p (q ∷ qs) = least_corner p (lowest_from q qs)

abbrev pub highest_from : List ℤ → List (List ℤ) → List ℤ
highest_from p [] = p
highest_from p (q ∷ qs) = greatest_corner p (highest_from q qs)

-- and of points
abbrev pub lowest : List (List ℤ) → List ℤ
lowest [] = []
lowest (p ∷ ps) = lowest_from p ps

abbrev pub highest : List (List ℤ) → List ℤ
highest [] = []
highest (p ∷ ps) = highest_from p ps

-- a number rounded up to an even one
abbrev pub even_up : ℕ → ℕ
even_up n = n + n % 2

-- its size in bytes
abbrev pub size_made : ℕ → NewShape → ℕ
size_made axes (shapes.Line points) = 36 + 8 * axes
size_made axes (shapes.Chain points) = 38 + 4 * axes * length points
size_made axes (shapes.Shape points) = 38 + 4 * axes * length points
size_made axes (shapes.Text font just text_length text_height origin chars) = even_up (chars_start axes + length chars)

-- how a text is turned: the rotation 0, or in three axes the quaternion of no turn
abbrev pub turn_bytes : ℕ → List ℕ
turn_bytes axes =
    if axes == 2 then long_bytes (pos 0)
    else flat_map long_bytes (pos 2147483647 ∷ pos 0 ∷ pos 0 ∷ pos 0 ∷ [])

-- what stands between a text's display part and its origin: font, justification, both multipliers and the turn
abbrev pub run_made : ℕ → ℕ → ℕ → ℤ → ℤ → List ℕ
run_made axes font just text_length text_height = font ∷ just ∷ (long_bytes text_length ++ (long_bytes text_height ++ turn_bytes axes))

-- its parts
abbrev pub parts_made : ℕ → NewShape → Parts
parts_made axes (shapes.Line points) = Line (map (take axes) points)
parts_made axes (shapes.Chain points) = Points (map (take axes) points)
parts_made axes (shapes.Shape points) = Points (map (take axes) points)
parts_made axes (shapes.Text font just text_length text_height origin chars) = Text (run_made axes font just text_length text_height) (take axes origin) 0 chars

-- the byte that makes a text's size even
abbrev pub rest_made : NewShape → List ℕ
rest_made (shapes.Text font just text_length text_height origin chars) = if length chars % 2 == 0 then [] else 0 ∷ []
rest_made other = []

-- its display part. The attribute index is that of attribute data behind the element's end
abbrev pub display_made : NewElement → Display
display_made new = record {
  low = lowest (points_given new.shape);
  high = highest (points_given new.shape);
  group = 0;
  index = (size_made new.axes new.shape - 32) / 2;
  properties = 0;
  style = new.symb.style;
  weight = new.symb.weight;
  color = new.symb.color;
}

-- the element that is appended, in a file of its own dimension
abbrev pub element_made : NewElement → Element
element_made new = record {
  level = new.level;
  bit6 = false;
  cbit = false;
  kind = kind_made new.shape;
  deleted = false;
  body = Shown (display_made new) (parts_made new.axes new.shape) (rest_made new.shape);
}
