-- Worked elements and their bytes: each record's spelling computes to the bytes, and reading the bytes
-- gives the record.
use Rattle.std.proofs.Common.{◌≡◌, ℕ, List, [], ◌∷◌, ◌++◌, refl, false, true, replicate, take, drop}
use Rattle.std.specs.Prelude.{ℤ, pos}
use Rattle.std.specs.declared.result.Result.{Result}
use Rattle.std.specs.declared.result.Result.TheVariants.{Err}
use Rattle.dgn_drawing.specs.declared.body_fault.BodyFault.{BodyFault}
use Rattle.dgn_drawing.specs.Element.{Display, Line, Points, Text, Node, Cell, Header, Body, Shown, Element}
use Rattle.dgn_drawing.specs.Forms.{form_of}
use Rattle.dgn_drawing.specs.Spelling.{display_bytes, parts_bytes, body_bytes, spell}
use Rattle.dgn_drawing.specs.Faults.{element_fault}
use Rattle.dgn_drawing.proofs.RecordsRead.{no_fault}
use Rattle.dgn_drawing.specs.Reading.{display_at, parts_at, end_at, body_in, element_at}

abbrev short : Result (Unit {0}) BodyFault
short = Err BodyFault.Short

abbrev misplaced : Result (Unit {0}) BodyFault
misplaced = Err BodyFault.Attr

abbrev origin : List ℤ
origin = pos 0 ∷ pos 0 ∷ []

-- a display part with a low and a high corner, an attribute index, properties, a weight and a colour
abbrev display : List ℤ → List ℤ → ℕ → ℕ → ℕ → ℕ → Display
display low high index properties weight color = record {
  low = low;
  high = high;
  group = 0;
  index = index;
  properties = properties;
  style = 0;
  weight = weight;
  color = color;
}

-- a corner of the plane
abbrev corner : ℕ → ℕ → List ℤ
corner x y = pos x ∷ pos y ∷ pos 0 ∷ []

-- an element of a level and a type, without bits
abbrev element : ℕ → ℕ → Body → Element
element level kind body = record { level = level; bit6 = false; cbit = false; kind = kind; deleted = false; body = body }

-- a line from 0,0 to 100,50 on level 1
abbrev pub line : Element
line = element 1 3 (Shown (display (corner 0 0) (corner 100 50) 10 0 0 0) (Line (origin ∷ (pos 100 ∷ pos 50 ∷ []) ∷ [])) [])

abbrev pub line_bytes : List ℕ
line_bytes =
    0x01 ∷ 0x03 ∷ 0x18 ∷ 0x00 ∷ 0x00 ∷ 0x80 ∷ 0x00 ∷ 0x00 ∷ 0x00 ∷ 0x80 ∷ 0x00 ∷ 0x00 ∷ 0x00 ∷ 0x80 ∷ 0x00 ∷ 0x00 ∷
    0x00 ∷ 0x80 ∷ 0x64 ∷ 0x00 ∷ 0x00 ∷ 0x80 ∷ 0x32 ∷ 0x00 ∷ 0x00 ∷ 0x80 ∷ 0x00 ∷ 0x00 ∷ 0x00 ∷ 0x00 ∷ 0x0A ∷ 0x00 ∷
    0x00 ∷ 0x00 ∷ 0x00 ∷ 0x00 ∷ 0x00 ∷ 0x00 ∷ 0x00 ∷ 0x00 ∷ 0x00 ∷ 0x00 ∷ 0x00 ∷ 0x00 ∷ 0x00 ∷ 0x00 ∷ 0x64 ∷ 0x00 ∷
    0x00 ∷ 0x00 ∷ 0x32 ∷ 0x00 ∷ []

spell-line : spell line ≡ line_bytes
unfolding spell body_bytes parts_bytes display_bytes
spell-line = refl

element_at-line : element_at 2 line_bytes ≡ line
unfolding element_at body_in parts_at display_at form_of
element_at-line = refl

element_fault-line : element_fault 2 line_bytes ≡ no_fault
unfolding form_of
element_fault-line = refl

-- a line from 0,0 to 10,10 on level 2 with colour 3 and weight 1
abbrev heavy_line : Element
heavy_line = element 2 3 (Shown (display (corner 0 0) (corner 10 10) 10 0 1 3) (Line (origin ∷ (pos 10 ∷ pos 10 ∷ []) ∷ [])) [])

abbrev heavy_line_bytes : List ℕ
heavy_line_bytes =
    0x02 ∷ 0x03 ∷ 0x18 ∷ 0x00 ∷ 0x00 ∷ 0x80 ∷ 0x00 ∷ 0x00 ∷ 0x00 ∷ 0x80 ∷ 0x00 ∷ 0x00 ∷ 0x00 ∷ 0x80 ∷ 0x00 ∷ 0x00 ∷
    0x00 ∷ 0x80 ∷ 0x0A ∷ 0x00 ∷ 0x00 ∷ 0x80 ∷ 0x0A ∷ 0x00 ∷ 0x00 ∷ 0x80 ∷ 0x00 ∷ 0x00 ∷ 0x00 ∷ 0x00 ∷ 0x0A ∷ 0x00 ∷
    0x00 ∷ 0x00 ∷ 0x08 ∷ 0x03 ∷ 0x00 ∷ 0x00 ∷ 0x00 ∷ 0x00 ∷ 0x00 ∷ 0x00 ∷ 0x00 ∷ 0x00 ∷ 0x00 ∷ 0x00 ∷ 0x0A ∷ 0x00 ∷
    0x00 ∷ 0x00 ∷ 0x0A ∷ 0x00 ∷ []

spell-heavy_line : spell heavy_line ≡ heavy_line_bytes
unfolding spell body_bytes parts_bytes display_bytes
spell-heavy_line = refl

element_at-heavy_line : element_at 2 heavy_line_bytes ≡ heavy_line
unfolding element_at body_in parts_at display_at form_of
element_at-heavy_line = refl

element_fault-heavy_line : element_fault 2 heavy_line_bytes ≡ no_fault
unfolding form_of
element_fault-heavy_line = refl

-- a chain from 0,0 to 1,1
abbrev chain : Element
chain = element 1 4 (Shown (display (corner 0 0) (corner 1 1) 11 0 0 0) (Points (origin ∷ (pos 1 ∷ pos 1 ∷ []) ∷ [])) [])

abbrev chain_bytes : List ℕ
chain_bytes =
    0x01 ∷ 0x04 ∷ 0x19 ∷ 0x00 ∷ 0x00 ∷ 0x80 ∷ 0x00 ∷ 0x00 ∷ 0x00 ∷ 0x80 ∷ 0x00 ∷ 0x00 ∷ 0x00 ∷ 0x80 ∷ 0x00 ∷ 0x00 ∷
    0x00 ∷ 0x80 ∷ 0x01 ∷ 0x00 ∷ 0x00 ∷ 0x80 ∷ 0x01 ∷ 0x00 ∷ 0x00 ∷ 0x80 ∷ 0x00 ∷ 0x00 ∷ 0x00 ∷ 0x00 ∷ 0x0B ∷ 0x00 ∷
    0x00 ∷ 0x00 ∷ 0x00 ∷ 0x00 ∷ 0x02 ∷ 0x00 ∷ 0x00 ∷ 0x00 ∷ 0x00 ∷ 0x00 ∷ 0x00 ∷ 0x00 ∷ 0x00 ∷ 0x00 ∷ 0x00 ∷ 0x00 ∷
    0x01 ∷ 0x00 ∷ 0x00 ∷ 0x00 ∷ 0x01 ∷ 0x00 ∷ []

spell-chain : spell chain ≡ chain_bytes
unfolding spell body_bytes parts_bytes display_bytes
spell-chain = refl

element_at-chain : element_at 2 chain_bytes ≡ chain
unfolding element_at body_in parts_at display_at form_of
element_at-chain = refl

element_fault-chain : element_fault 2 chain_bytes ≡ no_fault
unfolding form_of
element_fault-chain = refl

-- a chain in space, from 1,2,3 to 4,5,6
abbrev space_chain : Element
space_chain = element 1 4
    (Shown (display (pos 1 ∷ pos 2 ∷ pos 3 ∷ []) (pos 4 ∷ pos 5 ∷ pos 6 ∷ []) 15 0 0 0)
    (Points ((pos 1 ∷ pos 2 ∷ pos 3 ∷ []) ∷ (pos 4 ∷ pos 5 ∷ pos 6 ∷ []) ∷ [])) [])

abbrev pub space_chain_bytes : List ℕ
space_chain_bytes =
    0x01 ∷ 0x04 ∷ 0x1D ∷ 0x00 ∷ 0x00 ∷ 0x80 ∷ 0x01 ∷ 0x00 ∷ 0x00 ∷ 0x80 ∷ 0x02 ∷ 0x00 ∷ 0x00 ∷ 0x80 ∷ 0x03 ∷ 0x00 ∷
    0x00 ∷ 0x80 ∷ 0x04 ∷ 0x00 ∷ 0x00 ∷ 0x80 ∷ 0x05 ∷ 0x00 ∷ 0x00 ∷ 0x80 ∷ 0x06 ∷ 0x00 ∷ 0x00 ∷ 0x00 ∷ 0x0F ∷ 0x00 ∷
    0x00 ∷ 0x00 ∷ 0x00 ∷ 0x00 ∷ 0x02 ∷ 0x00 ∷ 0x00 ∷ 0x00 ∷ 0x01 ∷ 0x00 ∷ 0x00 ∷ 0x00 ∷ 0x02 ∷ 0x00 ∷ 0x00 ∷ 0x00 ∷
    0x03 ∷ 0x00 ∷ 0x00 ∷ 0x00 ∷ 0x04 ∷ 0x00 ∷ 0x00 ∷ 0x00 ∷ 0x05 ∷ 0x00 ∷ 0x00 ∷ 0x00 ∷ 0x06 ∷ 0x00 ∷ []

spell-space_chain : spell space_chain ≡ space_chain_bytes
unfolding spell body_bytes parts_bytes display_bytes
spell-space_chain = refl

element_at-space_chain : element_at 3 space_chain_bytes ≡ space_chain
unfolding element_at body_in parts_at display_at form_of
element_at-space_chain = refl

element_fault-space_chain : element_fault 3 space_chain_bytes ≡ no_fault
unfolding form_of
element_fault-space_chain = refl

-- a shape whose eight attribute bytes are its rest, in a cell
abbrev shape : Element
shape = record {
  level = 1;
  bit6 = false;
  cbit = true;
  kind = 6;
  deleted = false;
  body =
      Shown (display (corner 0 0) (corner 20 20) 19 0x0800 0 0) (Points (origin ∷ (pos 20 ∷ pos 0 ∷ []) ∷ (pos 20 ∷ pos 20 ∷ []) ∷ origin ∷ []))
      (0x03 ∷ 0x10 ∷ 0 ∷ 0 ∷ 0 ∷ 0 ∷ 0 ∷ 0 ∷ []);
}

abbrev shape_bytes : List ℕ
shape_bytes =
    0x81 ∷ 0x06 ∷ 0x25 ∷ 0x00 ∷ 0x00 ∷ 0x80 ∷ 0x00 ∷ 0x00 ∷ 0x00 ∷ 0x80 ∷ 0x00 ∷ 0x00 ∷ 0x00 ∷ 0x80 ∷ 0x00 ∷ 0x00 ∷
    0x00 ∷ 0x80 ∷ 0x14 ∷ 0x00 ∷ 0x00 ∷ 0x80 ∷ 0x14 ∷ 0x00 ∷ 0x00 ∷ 0x80 ∷ 0x00 ∷ 0x00 ∷ 0x00 ∷ 0x00 ∷ 0x13 ∷ 0x00 ∷
    0x00 ∷ 0x08 ∷ 0x00 ∷ 0x00 ∷ 0x04 ∷ 0x00 ∷ 0x00 ∷ 0x00 ∷ 0x00 ∷ 0x00 ∷ 0x00 ∷ 0x00 ∷ 0x00 ∷ 0x00 ∷ 0x00 ∷ 0x00 ∷
    0x14 ∷ 0x00 ∷ 0x00 ∷ 0x00 ∷ 0x00 ∷ 0x00 ∷ 0x00 ∷ 0x00 ∷ 0x14 ∷ 0x00 ∷ 0x00 ∷ 0x00 ∷ 0x14 ∷ 0x00 ∷ 0x00 ∷ 0x00 ∷
    0x00 ∷ 0x00 ∷ 0x00 ∷ 0x00 ∷ 0x00 ∷ 0x00 ∷ 0x03 ∷ 0x10 ∷ 0x00 ∷ 0x00 ∷ 0x00 ∷ 0x00 ∷ 0x00 ∷ 0x00 ∷ []

spell-shape : spell shape ≡ shape_bytes
unfolding spell body_bytes parts_bytes display_bytes
spell-shape = refl

element_at-shape : element_at 2 shape_bytes ≡ shape
unfolding element_at body_in parts_at display_at form_of
element_at-shape = refl

element_fault-shape : element_fault 2 shape_bytes ≡ no_fault
unfolding form_of
element_fault-shape = refl

-- the header of a cell ABC, with 32 bytes that aren't read set to AA
abbrev cell : Element
cell = element 1 2 (Shown (display (corner 0 0) (corner 100 50) 30 0 0 0) (Cell 53 (1683 ∷ 0 ∷ []) (replicate 10 0 ++ replicate 32 0xAA) origin) [])

abbrev cell_bytes : List ℕ
cell_bytes =
    0x01 ∷ 0x02 ∷ 0x2C ∷ 0x00 ∷ 0x00 ∷ 0x80 ∷ 0x00 ∷ 0x00 ∷ 0x00 ∷ 0x80 ∷ 0x00 ∷ 0x00 ∷ 0x00 ∷ 0x80 ∷ 0x00 ∷ 0x00 ∷
    0x00 ∷ 0x80 ∷ 0x64 ∷ 0x00 ∷ 0x00 ∷ 0x80 ∷ 0x32 ∷ 0x00 ∷ 0x00 ∷ 0x80 ∷ 0x00 ∷ 0x00 ∷ 0x00 ∷ 0x00 ∷ 0x1E ∷ 0x00 ∷
    0x00 ∷ 0x00 ∷ 0x00 ∷ 0x00 ∷ 0x35 ∷ 0x00 ∷ 0x93 ∷ 0x06 ∷ 0x00 ∷ 0x00 ∷ 0x00 ∷ 0x00 ∷ 0x00 ∷ 0x00 ∷ 0x00 ∷ 0x00 ∷
    0x00 ∷ 0x00 ∷ 0x00 ∷ 0x00 ∷ 0xAA ∷ 0xAA ∷ 0xAA ∷ 0xAA ∷ 0xAA ∷ 0xAA ∷ 0xAA ∷ 0xAA ∷ 0xAA ∷ 0xAA ∷ 0xAA ∷ 0xAA ∷
    0xAA ∷ 0xAA ∷ 0xAA ∷ 0xAA ∷ 0xAA ∷ 0xAA ∷ 0xAA ∷ 0xAA ∷ 0xAA ∷ 0xAA ∷ 0xAA ∷ 0xAA ∷ 0xAA ∷ 0xAA ∷ 0xAA ∷ 0xAA ∷
    0xAA ∷ 0xAA ∷ 0xAA ∷ 0xAA ∷ 0x00 ∷ 0x00 ∷ 0x00 ∷ 0x00 ∷ 0x00 ∷ 0x00 ∷ 0x00 ∷ 0x00 ∷ []

spell-cell : spell cell ≡ cell_bytes
unfolding spell body_bytes parts_bytes display_bytes
spell-cell = refl

element_at-cell : element_at 2 cell_bytes ≡ cell
unfolding element_at body_in parts_at display_at form_of
element_at-cell = refl

element_fault-cell : element_fault 2 cell_bytes ≡ no_fault
unfolding form_of
element_fault-cell = refl

-- the text 'Hi there' at 5,6
abbrev text : Element
text = element 1 17 (Shown (display (corner 5 6) (corner 5 6) 18 0 0 0)
    (Text (3 ∷ 0 ∷ 0 ∷ 0 ∷ 0xE8 ∷ 0x03 ∷ 0 ∷ 0 ∷ 0xE8 ∷ 0x03 ∷ 0 ∷ 0 ∷ 0 ∷ 0 ∷ []) (pos 5 ∷ pos 6 ∷ []) 0
    (0x48 ∷ 0x69 ∷ 0x20 ∷ 0x74 ∷ 0x68 ∷ 0x65 ∷ 0x72 ∷ 0x65 ∷ [])) [])

abbrev text_bytes : List ℕ
text_bytes =
    0x01 ∷ 0x11 ∷ 0x20 ∷ 0x00 ∷ 0x00 ∷ 0x80 ∷ 0x05 ∷ 0x00 ∷ 0x00 ∷ 0x80 ∷ 0x06 ∷ 0x00 ∷ 0x00 ∷ 0x80 ∷ 0x00 ∷ 0x00 ∷
    0x00 ∷ 0x80 ∷ 0x05 ∷ 0x00 ∷ 0x00 ∷ 0x80 ∷ 0x06 ∷ 0x00 ∷ 0x00 ∷ 0x80 ∷ 0x00 ∷ 0x00 ∷ 0x00 ∷ 0x00 ∷ 0x12 ∷ 0x00 ∷
    0x00 ∷ 0x00 ∷ 0x00 ∷ 0x00 ∷ 0x03 ∷ 0x00 ∷ 0x00 ∷ 0x00 ∷ 0xE8 ∷ 0x03 ∷ 0x00 ∷ 0x00 ∷ 0xE8 ∷ 0x03 ∷ 0x00 ∷ 0x00 ∷
    0x00 ∷ 0x00 ∷ 0x00 ∷ 0x00 ∷ 0x05 ∷ 0x00 ∷ 0x00 ∷ 0x00 ∷ 0x06 ∷ 0x00 ∷ 0x08 ∷ 0x00 ∷ 0x48 ∷ 0x69 ∷ 0x20 ∷ 0x74 ∷
    0x68 ∷ 0x65 ∷ 0x72 ∷ 0x65 ∷ []

spell-text : spell text ≡ text_bytes
unfolding spell body_bytes parts_bytes display_bytes
spell-text = refl

element_at-text : element_at 2 text_bytes ≡ text
unfolding element_at body_in parts_at display_at form_of
element_at-text = refl

element_fault-text : element_fault 2 text_bytes ≡ no_fault
unfolding form_of
element_fault-text = refl

-- a text node of two strings at 0,0 with the total 80, on level 3
abbrev node : Element
node = element 3 7 (Shown (display (corner 0 0) (corner 0 0) 19 0 0 0) (Node 80 (2 ∷ 0 ∷ replicate 22 0) origin) [])

abbrev node_bytes : List ℕ
node_bytes =
    0x03 ∷ 0x07 ∷ 0x21 ∷ 0x00 ∷ 0x00 ∷ 0x80 ∷ 0x00 ∷ 0x00 ∷ 0x00 ∷ 0x80 ∷ 0x00 ∷ 0x00 ∷ 0x00 ∷ 0x80 ∷ 0x00 ∷ 0x00 ∷
    0x00 ∷ 0x80 ∷ 0x00 ∷ 0x00 ∷ 0x00 ∷ 0x80 ∷ 0x00 ∷ 0x00 ∷ 0x00 ∷ 0x80 ∷ 0x00 ∷ 0x00 ∷ 0x00 ∷ 0x00 ∷ 0x13 ∷ 0x00 ∷
    0x00 ∷ 0x00 ∷ 0x00 ∷ 0x00 ∷ 0x50 ∷ 0x00 ∷ 0x02 ∷ 0x00 ∷ 0x00 ∷ 0x00 ∷ 0x00 ∷ 0x00 ∷ 0x00 ∷ 0x00 ∷ 0x00 ∷ 0x00 ∷
    0x00 ∷ 0x00 ∷ 0x00 ∷ 0x00 ∷ 0x00 ∷ 0x00 ∷ 0x00 ∷ 0x00 ∷ 0x00 ∷ 0x00 ∷ 0x00 ∷ 0x00 ∷ 0x00 ∷ 0x00 ∷ 0x00 ∷ 0x00 ∷
    0x00 ∷ 0x00 ∷ 0x00 ∷ 0x00 ∷ 0x00 ∷ 0x00 ∷ []

spell-node : spell node ≡ node_bytes
unfolding spell body_bytes parts_bytes display_bytes
spell-node = refl

element_at-node : element_at 2 node_bytes ≡ node
unfolding element_at body_in parts_at display_at form_of
element_at-node = refl

element_fault-node : element_fault 2 node_bytes ≡ no_fault
unfolding form_of
element_fault-node = refl

-- the header of a complex shape of one element with eight attribute bytes, on level 4
abbrev header : Element
header = element 4 14 (Shown (display (corner 0 0) (corner 0 0) 4 0x0800 0 0) (Header 36 1) (replicate 8 0))

abbrev header_bytes : List ℕ
header_bytes =
    0x04 ∷ 0x0E ∷ 0x16 ∷ 0x00 ∷ 0x00 ∷ 0x80 ∷ 0x00 ∷ 0x00 ∷ 0x00 ∷ 0x80 ∷ 0x00 ∷ 0x00 ∷ 0x00 ∷ 0x80 ∷ 0x00 ∷ 0x00 ∷
    0x00 ∷ 0x80 ∷ 0x00 ∷ 0x00 ∷ 0x00 ∷ 0x80 ∷ 0x00 ∷ 0x00 ∷ 0x00 ∷ 0x80 ∷ 0x00 ∷ 0x00 ∷ 0x00 ∷ 0x00 ∷ 0x04 ∷ 0x00 ∷
    0x00 ∷ 0x08 ∷ 0x00 ∷ 0x00 ∷ 0x24 ∷ 0x00 ∷ 0x01 ∷ 0x00 ∷ 0x00 ∷ 0x00 ∷ 0x00 ∷ 0x00 ∷ 0x00 ∷ 0x00 ∷ 0x00 ∷ 0x00 ∷ []

spell-header : spell header ≡ header_bytes
unfolding spell body_bytes parts_bytes display_bytes
spell-header = refl

element_at-header : element_at 2 header_bytes ≡ header
unfolding element_at body_in parts_at display_at form_of
element_at-header = refl

element_fault-header : element_fault 2 header_bytes ≡ no_fault
unfolding form_of
element_fault-header = refl

-- damaged: the chain's count word says 3
abbrev pub chain_of_three : List ℕ
chain_of_three = take 36 chain_bytes ++ (3 ∷ drop 37 chain_bytes)

element_fault-chain_of_three : element_fault 2 chain_of_three ≡ short
unfolding form_of
element_fault-chain_of_three = refl

-- damaged: the line's attribute data are said to begin at byte 50, before its body's end at 52
abbrev pub line_with_attributes : List ℕ
line_with_attributes = take 30 line_bytes ++ (9 ∷ 0 ∷ 0x00 ∷ 0x08 ∷ drop 34 line_bytes)

element_fault-line_with_attributes : element_fault 2 line_with_attributes ≡ misplaced
unfolding form_of
element_fault-line_with_attributes = refl

-- an element of a type whose other bytes are 0
abbrev blank : ℕ → List ℕ
blank kind = 0 ∷ kind ∷ replicate 130 0

-- where each type's body ends, in the plane and in space
ends-blank : (end_at 2 (blank 3) ∷ end_at 3 (blank 3) ∷ end_at 2 (blank 4) ∷ end_at 3 (blank 6) ∷ end_at 3 (blank 11) ∷ end_at 2 (blank 17) ∷ end_at 3
    (blank 17) ∷ [])
    ≡ (52 ∷ 60 ∷ 38 ∷ 38 ∷ 38 ∷ 60 ∷ 76 ∷ [])
unfolding form_of
ends-blank = refl

ends-headers : (end_at 2 (blank 7) ∷ end_at 3 (blank 7) ∷ end_at 2 (blank 2) ∷ end_at 3 (blank 2) ∷ end_at 2 (blank 12) ∷ end_at 3 (blank 14) ∷ end_at 2
    (blank 18) ∷ end_at 3 (blank 19) ∷ [])
    ≡ (70 ∷ 86 ∷ 92 ∷ 124 ∷ 40 ∷ 40 ∷ 40 ∷ 40 ∷ [])
unfolding form_of
ends-headers = refl

ends-plain : (end_at 2 (blank 15) ∷ end_at 3 (blank 16) ∷ end_at 2 (blank 22) ∷ end_at 3 (blank 23) ∷ end_at 2 (blank 24) ∷ end_at 3 (blank 27) ∷ end_at 2
    (blank 33) ∷ end_at 3 (blank 34) ∷ end_at 2 (blank 35) ∷ end_at 2 (blank 5) ∷ [])
    ≡ (36 ∷ 36 ∷ 36 ∷ 36 ∷ 36 ∷ 36 ∷ 36 ∷ 36 ∷ 36 ∷ 4 ∷ [])
unfolding form_of
ends-plain = refl
