-- The drawing that is generated from a seed: a TCB, and trees of one element or three until as many elements stand
-- behind it as were asked for. Each tree stands at x, y, two numbers that are drawn for it, x first.
use Rattle.std.specs.Prelude.{ℕ, zero, suc, ◌+◌, ◌-◌, ◌*◌, ◌/◌, ◌%◌, ◌≤◌, ◌≡◌, ◌==◌, ◌&&◌, nat_le, true, false, if◌then◌else◌, ℤ, pos, List, [], ◌∷◌, ◌++◌}
use Rattle.std.specs.Prelude.{length, replicate, codes}
use Rattle.dgn_drawing.specs.declared.new_shape.NewShape.{NewShape}
use Rattle.dgn_drawing.specs.declared.new_shape.NewShape.TheVariants as shapes
use Rattle.dgn_drawing.specs.Element.{Display, Cell, Silent, Shown, Element}
use Rattle.dgn_drawing.specs.Spelling.{spelling}
use Rattle.dgn_drawing.specs.NewElements.{NewElement, element_made}
use Rattle.dgn_drawing.specs.Opening.{Opens}
use Rattle.dgn_drawing.specs.declared.limits.TheConstants.{MOST_DESIGN}

-- the state that a draw makes of a state
abbrev pub next_state : ℕ → ℕ
next_state s = (s * 1103515245 + 12345) % 2147483648

-- the number that a draw gives, by the state that it made
abbrev pub number_of : ℕ → ℕ
number_of s = s / 2048

-- a point of a drawing of two axes
abbrev pub point : ℕ → ℕ → List ℤ
point x y = pos x ∷ pos y ∷ pos 0 ∷ []

-- In what follows i is how many elements stand behind the TCB before the tree at x, y. It gives the level and the colour
-- of each element of the tree.

-- an element of this shape
abbrev pub new_at : ℕ → NewShape → NewElement
new_at i shape = record { level = 1 + i % 8; symb = record { color = i % 16; weight = 0; style = 0 }; axes = 2; shape = shape }

-- the same with bit C, as a member of a cell
abbrev pub member_of : NewElement → Element
member_of new = record (element_made new) { cbit = true }

-- the shapes that take turns
abbrev pub shape_at : ℕ → ℕ → ℕ → NewShape
shape_at i x y =
    if i % 4 == 0 then shapes.Line (point x y ∷ point (x + 100) (y + 50) ∷ [])
    else if i % 4 == 1 then shapes.Chain (point x y ∷ point (x + 10) y ∷ point (x + 10) (y + 10) ∷ [])
    else if i % 4 == 2 then shapes.Shape (point x y ∷ point (x + 20) y ∷ point (x + 20) (y + 20) ∷ point x y ∷ [])
    else shapes.Text 1 0 (pos 1000) (pos 1000) (point x y) (codes "DGN")

-- the display part of an element whose range is so wide and high
abbrev pub display_at : (i x y width height index : ℕ) → Display
display_at i x y width height index = record {
  low = point x y;
  high = point (x + width) (y + height);
  group = 0;
  index = index;
  properties = 0;
  style = 0;
  weight = 0;
  color = i % 16;
}

-- the header of a cell: its total counts two lines, and its name is GEN
abbrev pub cell_header : ℕ → ℕ → ℕ → Element
cell_header i x y = record {
  level = 1 + i % 8;
  bit6 = false;
  cbit = false;
  kind = 2;
  deleted = false;
  body = Shown (display_at i x y 30 30 30) (Cell 79 (11414 ∷ 0 ∷ []) (replicate 42 0) (pos x ∷ pos y ∷ [])) [];
}

-- a cell: the header, and a line along each axis
abbrev pub cell : ℕ → ℕ → ℕ → List Element
cell i x y =
    cell_header i x y
    ∷ member_of (new_at i (shapes.Line (point x y ∷ point (x + 30) y ∷ [])))
    ∷ member_of (new_at i (shapes.Line (point x y ∷ point x (y + 30) ∷ [])))
    ∷ []

-- a tree where so many elements are left to make: every sixteenth element begins a cell, if there are three left
abbrev pub tree : (left i x y : ℕ) → List Element
tree left i x y = if i % 16 == 0 && nat_le 3 left then cell i x y else element_made (new_at i (shape_at i x y)) ∷ []

-- the tree at the two numbers that are drawn in state s
abbrev pub tree_drawn : (left i s : ℕ) → List Element
tree_drawn left i s = tree left i (number_of (next_state s)) (number_of (next_state (next_state s)))

-- trees, drawn from state s on, until no element is left to make; at most n of them
unfoldable pub trees_within : (n left i s : ℕ) → List Element
trees_within zero left i s = []
trees_within (suc n) left i s =
    if left == 0 then []
    else tree_drawn left i s
    ++ trees_within n (left - length (tree_drawn left i s)) (i + length (tree_drawn left i s)) (next_state (next_state s))

-- the TCB: 08 09 FE 02 and 1532 zero bytes
unfoldable pub blank_tcb : Element
blank_tcb = record { level = 8; bit6 = false; cbit = false; kind = 9; deleted = false; body = Silent (replicate 1532 0) }

-- the elements of the drawing
unfoldable pub generated_elements : (seed count : ℕ) → List Element
generated_elements seed count = blank_tcb ∷ trees_within count count 0 seed

-- its bytes
abbrev pub generated : (seed count : ℕ) → List ℕ
generated seed count = spelling (generated_elements seed count) ++ (255 ∷ 255 ∷ [])

-- a generated drawing opens as its elements, which are as many as were asked for and the TCB, and it isn't too long
-- for a design file
pub record IsGenerated (seed count : ℕ) : Type 0 where
  pub opens : Opens (generated seed count) 2 (generated_elements seed count) (255 ∷ 255 ∷ [])
  pub number : length (generated_elements seed count) ≡ count + 1
  pub few : length (generated seed count) ≤ MOST_DESIGN

abbrev pub GeneratedDrawingsOpen : Type 0
GeneratedDrawingsOpen = (seed count : ℕ) → count ≤ 200000 → IsGenerated seed count
