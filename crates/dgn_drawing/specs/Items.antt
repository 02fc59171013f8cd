-- What a display shows of one element.
use Rattle.std.specs.Prelude.{ℕ, ◌==◌, if◌then◌else◌, ℤ, List, [], ◌∷◌, map}
use Rattle.std.specs.declared.option.Option.{Option}
use Rattle.std.specs.declared.option.Option.TheVariants.{None, Some}
use Rattle.range_code.specs.Ranges.{on_axis}
use Rattle.dgn_drawing.specs.declared.types.item.Item.{Item}
use Rattle.dgn_drawing.specs.declared.types.item_body.ItemBody.{ItemBody}
use Rattle.dgn_drawing.specs.Element.{Display, Parts, Line, Points, Text, Node, Cell, Header, Plain, Body, Silent, Shown, Element}
use Rattle.dgn_layout.specs.declared.TheConstants.{SHARED_CELL}

-- a point with three numbers, the third of which is 0 where there is none
abbrev pub in_space : List ℤ → List ℤ
in_space point = on_axis point 0 ∷ on_axis point 1 ∷ on_axis point 2 ∷ []

-- what is shown of the parts
abbrev pub item_body_of : Parts → ItemBody
item_body_of (Line points) = ItemBody.Path (map in_space points)
item_body_of (Points points) = ItemBody.Path (map in_space points)
item_body_of (Text run origin spare chars) = ItemBody.Text (in_space origin) chars
item_body_of (Node total run origin) = ItemBody.Node (in_space origin)
item_body_of (Cell total name run origin) = ItemBody.Cell name (in_space origin)
item_body_of (Header total number) = ItemBody.Group
item_body_of Plain = ItemBody.Boxed

-- the item of an element with a display part and parts
abbrev pub shown_item : ℕ → ℕ → ℕ → Element → Display → Parts → Item
shown_item dim number depth e display parts = record {
  number = number;
  depth = depth;
  kind = e.kind;
  level = e.level;
  symb = record { color = display.color; weight = display.weight; style = display.style };
  axes = dim;
  range = record { lo = display.low; hi = display.high };
  body = item_body_of parts;
}

-- the item of an element, if it has one: a silent element has none, and neither has a shared cell
-- definition, type 34
abbrev pub item_in : ℕ → ℕ → ℕ → Element → Body → Option Item
item_in dim number depth e (Silent rest) = None
item_in dim number depth e (Shown display parts rest) =
    if e.kind == SHARED_CELL then None else Some (shown_item dim number depth e display parts)

abbrev pub item_of : ℕ → ℕ → ℕ → Element → Option Item
item_of dim number depth e = item_in dim number depth e e.body
