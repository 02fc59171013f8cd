-- What `show` says: a line for each item that is shown, and how many there are.
use Rattle.std.specs.Prelude.{ℕ, ℤ, Bool, ◌==◌, ◌&&◌, ◌/◌, ◌%◌, not, nat_le, if◌then◌else◌, List, [], ◌∷◌, ◌++◌, length, codes}
use Rattle.std.specs.Fmt.{signed_decimal}
use Rattle.std.specs.List.{flat_map}
use Rattle.std.specs.Char.{digit_char}
use Rattle.range_code.specs.Ranges.{on_axis}
use Rattle.range_code.specs.declared.Box3.{Box3}
use Rattle.group_head.specs.Names.{text_of_name}
use Rattle.dgn_drawing.specs.declared.types.item.Item.{Item}
use Rattle.dgn_drawing.specs.declared.types.item_body.ItemBody.{ItemBody}
use Rattle.dgn_drawing.specs.declared.types.item_body.ItemBody.TheVariants.{Path, Text, Boxed, Cell, Node, Group}
use Rattle.dgn_listing.specs.Lines.{blank, line_feed, fields_text, ending_text}

-- a point: x,y and in three dimensions x,y,z
abbrev pub pair_text : List ℤ → List ℕ
pair_text point = signed_decimal (on_axis point 0) ++ (codes "," ++ signed_decimal (on_axis point 1))

abbrev pub third_text : List ℤ → List ℕ
third_text point = codes "," ++ signed_decimal (on_axis point 2)

abbrev pub height_text : ℕ → List ℤ → List ℕ
height_text axes point = if axes == 3 then third_text point else []

abbrev pub point_text : ℕ → List ℤ → List ℕ
point_text axes point = pair_text point ++ height_text axes point

-- points, with a blank before each
abbrev pub next_point_text : ℕ → List ℤ → List ℕ
next_point_text axes point = blank ++ point_text axes point

abbrev pub points_text : ℕ → List (List ℤ) → List ℕ
points_text axes points = flat_map (next_point_text axes) points

-- a character that stands for itself: from the blank to the tilde, but for the backslash
abbrev pub is_plain : ℕ → Bool
is_plain char = nat_le 0x20 char && nat_le char 0x7E && not (char == 0x5C)

-- any other is a backslash and two hexadecimal digits, with a to f in lower case
abbrev pub char_text : ℕ → List ℕ
char_text char = if is_plain char then char ∷ [] else codes "\\" ++ (digit_char (char / 16) ∷ digit_char (char % 16) ∷ [])

abbrev pub chars_text : List ℕ → List ℕ
chars_text chars = flat_map char_text chars

-- what an item is: its kind in a word, and its points, its origin, its characters, its corners or its name
abbrev pub path_text : ℕ → List (List ℤ) → List ℕ
path_text axes points = codes "path" ++ points_text axes points

abbrev pub said_text : ℕ → List ℤ → List ℕ → List ℕ
said_text axes origin chars = codes "text " ++ (point_text axes origin ++ (blank ++ chars_text chars))

abbrev pub box_text : ℕ → Box3 → List ℕ
box_text axes range = codes "box " ++ (point_text axes range.lo ++ (blank ++ point_text axes range.hi))

abbrev pub cell_text : ℕ → List ℕ → List ℤ → List ℕ
cell_text axes name origin = codes "cell [" ++ (text_of_name name ++ (codes "] " ++ point_text axes origin))

abbrev pub node_text : ℕ → List ℤ → List ℕ
node_text axes origin = codes "node " ++ point_text axes origin

abbrev pub body_text : ℕ → Box3 → ItemBody → List ℕ
body_text axes range (Path points) = path_text axes points
body_text axes range (Text origin chars) = said_text axes origin chars
body_text axes range Boxed = box_text axes range
body_text axes range (Cell name origin) = cell_text axes name origin
body_text axes range (Node origin) = node_text axes origin
body_text axes range Group = codes "group"

-- the numbers of an item: its own, its depth, type and level, and its look
abbrev pub numbers_text : Item → List ℕ
numbers_text item = fields_text (item.number ∷ item.depth ∷ item.kind ∷ item.level ∷ item.symb.color ∷ item.symb.weight ∷ item.symb.style ∷ [])

-- the line of an item
abbrev pub item_text : Item → List ℕ
item_text item = numbers_text item ++ (body_text item.axes item.range item.body ++ line_feed)

abbrev pub lines_text : List Item → List ℕ
lines_text items = flat_map item_text items

-- the text of `show`
abbrev pub items_text : List Item → List ℕ
items_text items = lines_text items ++ ending_text (codes "shown") (length items)
