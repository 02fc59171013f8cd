-- What the nesting of elements looks at: the size, the type, bit C and the total of each.
use Rattle.std.specs.Prelude.{ℕ, List, length}
use Rattle.dgn_layout.specs.declared.types.Class.{Class}
use Rattle.dgn_layout.specs.Classes.{class_of}
use Rattle.elem_head.specs.Head.{kind_of, has_bit_c}
use Rattle.group_head.specs.Headers.{total_at}
use Rattle.dgn_drawing.specs.declared.row.Row.{Row}
use Rattle.dgn_drawing.specs.Element.{Parts, Node, Cell, Header, Body, Silent, Shown, Element}
use Rattle.dgn_drawing.specs.Spelling.{size_of}

-- the total of an element's bytes, where its class is counted
abbrev pub total_in : Class → List ℕ → ℕ
total_in Class.Counted b = total_at b
total_in other b = 0

-- the row of the bytes of one whole element
abbrev pub row_at : List ℕ → Row
row_at b = record { size = length b; kind = kind_of b; cbit = has_bit_c b; total = total_in (class_of (kind_of b)) b }

-- the total of the parts, or 0
abbrev pub total_of_parts : Parts → ℕ
total_of_parts (Node total run origin) = total
total_of_parts (Cell total name run origin) = total
total_of_parts (Header total number) = total
total_of_parts other = 0

-- the total of the body, or 0
abbrev pub total_of : Body → ℕ
total_of (Silent rest) = 0
total_of (Shown display parts rest) = total_of_parts parts

-- the row of an element
abbrev pub row_of : Element → Row
row_of e = record { size = size_of e; kind = e.kind; cbit = e.cbit; total = total_of e.body }
