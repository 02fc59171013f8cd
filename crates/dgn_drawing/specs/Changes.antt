-- Changes of one element. A change of the look gives the display part another colour, weight or style;
-- an element with a silent body has no look, and stays. A mark sets the deleted bit. A displacement is
-- added to each point, and to the low and the high corner on the file's axes. A wider range holds another
-- range too, on the file's axes. A freed element has no bit C, so it belongs to no header before it.
use Rattle.std.specs.Prelude.{ℕ, ◌+◌, ◌*◌, Bool, true, false, List, [], ◌∷◌, ◌++◌, map, take, drop, unwrap_or, ℤ, ◌+ℤ◌}
use Rattle.std.specs.List.{list_all, flat_map}
use Rattle.range_code.specs.declared.Box3.{Box3}
use Rattle.range_code.specs.Plane.{is_on_plane}
use Rattle.range_code.specs.Ranges.{join_of}
use Rattle.dgn_drawing.specs.Values.{Displacement, LookChange}
use Rattle.dgn_drawing.specs.Element.{Display, Parts, Line, Points, Text, Node, Cell, Header, Plain, Body, Silent, Shown, Element}

-- the display part with those of colour, weight and style that are given
abbrev pub look_changed : LookChange → Display → Display
look_changed change d = record d {
  style = unwrap_or change.style d.style;
  weight = unwrap_or change.weight d.weight;
  color = unwrap_or change.color d.color;
}

-- the body with another look
abbrev pub recoloured_body : LookChange → Body → Body
recoloured_body change (Silent rest) = Silent rest
recoloured_body change (Shown display parts rest) = Shown (look_changed change display) parts rest

-- the element with another look
abbrev pub recolour : LookChange → Element → Element
recolour change e = record e { body = recoloured_body change e.body }

-- the two bytes of the look: style and weight in one, and the colour
abbrev pub look_bytes : Display → List ℕ
look_bytes d = (d.style + 8 * d.weight) ∷ d.color ∷ []

-- the element marked deleted
abbrev pub mark : Element → Element
mark e = record e { deleted = true }

-- numbers and how far each is displaced, one by one. A number for which nothing is given stays
abbrev pub displaced : List ℤ → List ℤ → List ℤ
displaced ds [] = []
displaced [] (x ∷ xs) = x ∷ xs
displaced (d ∷ ds) (x ∷ xs) = (x +ℤ d) ∷ displaced ds xs

-- the display part with its corners displaced
abbrev pub display_displaced : List ℤ → Display → Display
display_displaced ds d = record d { low = displaced ds d.low; high = displaced ds d.high }

-- the parts with their points displaced
abbrev pub parts_displaced : List ℤ → Parts → Parts
parts_displaced ds (Line points) = Line (map (displaced ds) points)
parts_displaced ds (Points points) = Points (map (displaced ds) points)
parts_displaced ds (Text run origin spare chars) = Text run (displaced ds origin) spare chars
parts_displaced ds (Node total run origin) = Node total run (displaced ds origin)
parts_displaced ds (Cell total name run origin) = Cell total name run (displaced ds origin)
parts_displaced ds (Header total number) = Header total number
parts_displaced ds Plain = Plain

-- the body displaced
abbrev pub body_displaced : List ℤ → Body → Body
body_displaced ds (Silent rest) = Silent rest
body_displaced ds (Shown display parts rest) = Shown (display_displaced ds display) (parts_displaced ds parts) rest

-- the element displaced, in a file of that dimension
abbrev pub shift : ℕ → Displacement → Element → Element
shift dim by e = record e { body = body_displaced (take dim by.by) e.body }

-- the points of the parts
abbrev pub points_in : Parts → List (List ℤ)
points_in (Line points) = points
points_in (Points points) = points
points_in (Text run origin spare chars) = origin ∷ []
points_in (Node total run origin) = origin ∷ []
points_in (Cell total name run origin) = origin ∷ []
points_in (Header total number) = []
points_in Plain = []

-- the numbers that a displacement is added to: those of the two corners on the file's axes, then those of
-- the points
abbrev pub numbers_in : ℕ → Body → List ℤ
numbers_in dim (Silent rest) = []
numbers_in dim (Shown display parts rest) = take dim display.low ++ (take dim display.high ++ flat_map (λ p. p) (points_in parts))

-- whether the displaced element lies on the design plane: each sum is one of its coordinates
abbrev pub stays_on_plane : ℕ → Displacement → Element → Bool
stays_on_plane dim by e = list_all is_on_plane (numbers_in dim (shift dim by e).body)

-- the range of a display part
abbrev pub range_in : Display → Box3
range_in d = record { lo = d.low; hi = d.high }

-- the display part with another range, on the file's axes
abbrev pub display_ranged : ℕ → Box3 → Display → Display
display_ranged dim r d = record d { low = take dim r.lo ++ drop dim d.low; high = take dim r.hi ++ drop dim d.high }

-- the body with that range
abbrev pub body_ranged : ℕ → Box3 → Body → Body
body_ranged dim r (Silent rest) = Silent rest
body_ranged dim r (Shown display parts rest) = Shown (display_ranged dim r display) parts rest

-- the element with that range, in a file of that dimension
abbrev pub with_range : ℕ → Box3 → Element → Element
with_range dim r e = record e { body = body_ranged dim r e.body }

-- the body with the least range that holds its own and this one
abbrev pub body_widened : ℕ → Box3 → Body → Body
body_widened dim r (Silent rest) = Silent rest
body_widened dim r (Shown display parts rest) = Shown (display_ranged dim (join_of (range_in display) r) display) parts rest

-- the element with the wider range, in a file of that dimension
abbrev pub widen : ℕ → Box3 → Element → Element
widen dim r e = record e { body = body_widened dim r e.body }

-- the element without bit C
abbrev pub freed : Element → Element
freed e = record e { cbit = false }
