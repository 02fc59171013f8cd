-- What a revision makes of one element: another level, a lock set or cleared, another name, the deleted mark cleared, other
-- characters in the room of a text or a longer text made from one, and another point in the place of a vertex.
use Rattle.std.specs.Prelude.{ℕ, suc, ◌+◌, ◌-◌, ◌*◌, ◌/◌, ◌%◌, ◌==◌, ◌&&◌, ◌||◌, nat_lt, Bool, false, if◌then◌else◌, ℤ, List, [], ◌∷◌, ◌++◌, length, take, drop}
use Rattle.std.specs.Prelude.{slice_index_or}
use Rattle.std.specs.Ordering.{int_eq}
use Rattle.std.specs.Cmp.Lexicographic.{pointwise}
use Rattle.range_code.specs.declared.Box3.{Box3}
use Rattle.dgn_layout.specs.Ends.{chars_start}
use Rattle.dgn_drawing.specs.Element.{Display, Parts, Line, Points, Text, Cell, Body, Silent, Shown, Element}
use Rattle.dgn_drawing.specs.Spelling.{bit, spell, size_of}
use Rattle.dgn_drawing.specs.WellFormed.{says_attributes}
use Rattle.dgn_drawing.specs.NewElements.{even_up}
use Rattle.dgn_drawing.specs.Changes.{widen}

-- the element on another level
abbrev pub relevelled : ℕ → Element → Element
relevelled level e = record e { level = level }

-- properties with their lock, bit 8 or 0x0100, set or cleared
abbrev pub lock_set : Bool → ℕ → ℕ
lock_set lock properties = properties - 256 * (properties / 256 % 2) + bit 256 lock

-- the body with the lock set or cleared; a silent one has none
abbrev pub locked_body : Bool → Body → Body
locked_body lock (Silent rest) = Silent rest
locked_body lock (Shown display parts rest) = Shown (record display { properties = lock_set lock display.properties }) parts rest

-- the element locked, or unlocked
abbrev pub locked : Bool → Element → Element
locked lock e = record e { body = locked_body lock e.body }

-- a cell with another name; no other element has one
abbrev pub renamed_parts : List ℕ → Parts → Parts
renamed_parts name (Cell total old run origin) = Cell total name run origin
renamed_parts name other = other

abbrev pub renamed_body : List ℕ → Body → Body
renamed_body name (Silent rest) = Silent rest
renamed_body name (Shown display parts rest) = Shown display (renamed_parts name parts) rest

-- the element with another name
abbrev pub renamed : List ℕ → Element → Element
renamed name e = record e { body = renamed_body name e.body }

-- the element with its deleted mark cleared
abbrev pub unmarked : Element → Element
unmarked e = record e { deleted = false }

-- where the room of a text ends: where its attribute data begin, or with the element
abbrev pub room_end : Element → Display → ℕ
room_end e display = if says_attributes display.properties then 32 + 2 * display.index else size_of e

-- the room of an element: of a text, how many bytes there are from its first character on; of any other, none
abbrev pub room_in : ℕ → Element → Body → ℕ
room_in dim e (Shown display (Text run origin spare chars) rest) = room_end e display - chars_start dim
room_in dim e other = 0

abbrev pub room : ℕ → Element → ℕ
room dim e = room_in dim e e.body

-- a text with other characters over those that it has, and over what is behind them; every other byte stays
abbrev pub retexted_body : List ℕ → Body → Body
retexted_body new (Shown display (Text run origin spare chars) rest) = Shown display (Text run origin spare new) (drop (length new) (chars ++ rest))
retexted_body new other = other

-- the text in place
abbrev pub retexted : List ℕ → Element → Element
retexted new e = record e { body = retexted_body new e.body }

-- the attribute data of an element, where its properties say that there are any
abbrev pub attribute_data : Element → Display → List ℕ
attribute_data e display = if says_attributes display.properties then drop (32 + 2 * display.index) (spell e) else []

abbrev pub attribute_data_in : Element → Body → List ℕ
attribute_data_in e (Silent rest) = []
attribute_data_in e (Shown display parts rest) = attribute_data e display

-- the zero byte behind an odd number of characters
abbrev pub filling : List ℕ → List ℕ
filling chars = if length chars % 2 == 0 then [] else 0 ∷ []

-- the attribute index of attribute data that begin behind so many characters
abbrev pub index_behind : ℕ → ℕ → ℕ
index_behind dim count = (even_up (chars_start dim + count) - 32) / 2

-- the body of a text with more characters than it has room for, and with its own attribute data behind them
abbrev pub longer_body : ℕ → List ℕ → Element → Body → Body
longer_body dim new e (Shown display (Text run origin spare chars) rest) =
    Shown (record display { index = index_behind dim (length new) }) (Text run origin spare new) (filling new ++ attribute_data e display)
longer_body dim new e other = other

-- the longer text that is made from a text: it belongs to no header and isn't marked deleted
abbrev pub longer_text : ℕ → List ℕ → Element → Element
longer_text dim new e = record e { cbit = false; deleted = false; body = longer_body dim new e e.body }

-- its size
abbrev pub longer_size : ℕ → ℕ → Element → ℕ
longer_size dim count e = even_up (chars_start dim + count) + length (attribute_data_in e e.body)

-- whether points, of an element of a type, are those of a shape that ends where it begins
abbrev pub is_ring : ℕ → List (List ℤ) → Bool
is_ring kind points =
    kind == 6 && nat_lt 1 (length points) && pointwise int_eq (slice_index_or points 0 []) (slice_index_or points (length points - 1) [])

-- the numbers, from 0, of the points for which a point is put that is asked for point i: where a ring begins and ends,
-- for both its first and its last
abbrev pub numbers_put : ℕ → List (List ℤ) → ℕ → List ℕ
numbers_put kind points i =
    if is_ring kind points && (i == 0 || i + 1 == length points) then 0 ∷ (length points - 1) ∷ [] else i ∷ []

-- a list with an item put for that of number k
abbrev pub put_for : List ℤ → ℕ → List (List ℤ) → List (List ℤ)
put_for point k points = take k points ++ (point ∷ drop (suc k) points)

-- and for those of several
abbrev pub put_for_each : List ℤ → List ℕ → List (List ℤ) → List (List ℤ)
put_for_each point [] points = points
put_for_each point (k ∷ ks) points = put_for_each point ks (put_for point k points)

-- the points of parts that are a row of points, and of a body
abbrev pub row_in : Parts → List (List ℤ)
row_in (Line points) = points
row_in (Points points) = points
row_in other = []

abbrev pub row_of_points : Body → List (List ℤ)
row_of_points (Silent rest) = []
row_of_points (Shown display parts rest) = row_in parts

-- a row of points with a point put for those of these numbers
abbrev pub parts_pointed : List ℤ → List ℕ → Parts → Parts
parts_pointed point ks (Line points) = Line (put_for_each point ks points)
parts_pointed point ks (Points points) = Points (put_for_each point ks points)
parts_pointed point ks other = other

abbrev pub pointed_body : List ℤ → List ℕ → Body → Body
pointed_body point ks (Silent rest) = Silent rest
pointed_body point ks (Shown display parts rest) = Shown display (parts_pointed point ks parts) rest

abbrev pub pointed : List ℤ → List ℕ → Element → Element
pointed point ks e = record e { body = pointed_body point ks e.body }

-- the range that is a point, low and high
abbrev pub range_at_point : List ℤ → Box3
range_at_point point = record { lo = point; hi = point }

-- the numbers of the points of an element for which its vertex of number `index`, counted from 1, stands
abbrev pub vertices : ℕ → Element → List ℕ
vertices index e = numbers_put e.kind (row_of_points e.body) (index - 1)

-- the element with a point put for its vertex, and its range wide enough for it
abbrev pub with_vertex : ℕ → ℕ → List ℤ → Element → Element
with_vertex dim index point e = widen dim (range_at_point point) (pointed (take dim point) (vertices index e) e)
