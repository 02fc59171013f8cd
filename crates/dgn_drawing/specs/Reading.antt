-- The record that the bytes of one whole element spell: each field is read at its place, by the tables
-- of the element and of the bodies. b is the bytes of the element from its first one on.
use Rattle.std.specs.Prelude.{ℕ, ◌+◌, ◌-◌, ◌/◌, ◌%◌, ◌==◌, Bool, List, take, drop, slice_index}
use Rattle.dgn_words.specs.Numbers.{word_at}
use Rattle.elem_head.specs.Head.{level_of, has_bit_c, kind_of, is_deleted, style_of, weight_of, colour_of, properties_of}
use Rattle.range_code.specs.Ranges.{range_of}
use Rattle.dgn_layout.specs.Ends.{body_end as end_of}
use Rattle.body_vertex.specs.Points.{points_of}
use Rattle.body_text.specs.Texts.{origin_start, origin_of, chars_count_place, chars_of, node_origin_start, node_origin_of}
use Rattle.group_head.specs.Headers.{total_at, name_at, origin_at}
use Rattle.dgn_drawing.specs.declared.form.Form.{Form}
use Rattle.dgn_drawing.specs.Element.{Display, Parts, Line, Points, Text, Node, Cell, Header, Plain, Body, Silent, Shown, Element}
use Rattle.dgn_drawing.specs.Forms.{form_of}
use Rattle.dgn_drawing.specs.WellFormed.{cell_run}

-- the reserved bit: bit 6 of byte 0
abbrev pub has_bit_6 : List ℕ → Bool
has_bit_6 b = slice_index b 0 / 64 % 2 == 1

-- the graphic group: the word at byte 28
abbrev pub group_of : List ℕ → ℕ
group_of b = word_at b 28

-- the attribute index: the word at byte 30
abbrev pub index_of : List ℕ → ℕ
index_of b = word_at b 30

-- the display part
unfoldable pub display_at : List ℕ → Display
display_at b = record {
  low = (range_of b).lo;
  high = (range_of b).hi;
  group = group_of b;
  index = index_of b;
  properties = properties_of b;
  style = style_of b;
  weight = weight_of b;
  color = colour_of b;
}

-- a header's second word, which says how many elements its members are: the word at byte 38
abbrev pub number_at : List ℕ → ℕ
number_at b = word_at b 38

-- the parts of an element with a display part, by its form
unfoldable pub parts_at : Form → ℕ → List ℕ → Parts
parts_at Form.Line dim b = Line (points_of dim (kind_of b) b)
parts_at Form.Points dim b = Points (points_of dim (kind_of b) b)
parts_at Form.Text dim b =
    Text (take (origin_start dim - 36) (drop 36 b)) (origin_of dim b) (slice_index b (chars_count_place dim + 1)) (chars_of dim b)
parts_at Form.Node dim b = Node (total_at b) (take (node_origin_start dim - 38) (drop 38 b)) (node_origin_of dim b)
parts_at Form.Cell dim b = Cell (total_at b) (name_at b) (take (cell_run dim) (drop 42 b)) (origin_at dim b)
parts_at Form.Header dim b = Header (total_at b) (number_at b)
parts_at Form.Plain dim b = Plain
parts_at Form.Silent dim b = Plain

-- where the body ends, by the element's type
abbrev pub end_at : ℕ → List ℕ → ℕ
end_at dim b = end_of dim (kind_of b) b

-- the body of an element, by its form
unfoldable pub body_in : Form → ℕ → List ℕ → Body
body_in Form.Silent dim b = Silent (drop 4 b)
body_in form dim b = Shown (display_at b) (parts_at form dim b) (drop (end_at dim b) b)

-- the form of the element
abbrev pub form_at : List ℕ → Form
form_at b = form_of (kind_of b)

-- the element
unfoldable pub element_at : ℕ → List ℕ → Element
element_at dim b = record {
  level = level_of b;
  bit6 = has_bit_6 b;
  cbit = has_bit_c b;
  kind = kind_of b;
  deleted = is_deleted b;
  body = body_in (form_at b) dim b;
}
