-- Worked drawings, and what the display shows of them: the number and the depth of each item.
use Rattle.std.proofs.Common.{◌≡◌, ◌+◌, ◌^◌, ℕ, List, [], ◌∷◌, length, map, refl, Bool, true, false, replicate}
use Rattle.std.specs.Prelude.{ℤ, pos}
use Rattle.dgn_drawing.specs.declared.types.item.Item.{Item}
use Rattle.dgn_drawing.specs.declared.mask.Mask.{Mask}
use Rattle.dgn_drawing.specs.Element.{Display, Parts, Line, Cell, Plain, Silent, Shown, Element}
use Rattle.dgn_drawing.specs.Spelling.{display_bytes, parts_bytes, body_bytes, spell}
use Rattle.dgn_drawing.specs.Nesting.{nest_within}
use Rattle.dgn_drawing.specs.Shown.{shown, tree_shown}

abbrev origin : List ℤ
origin = pos 0 ∷ pos 0 ∷ []

abbrev display : Display
display = record {
  low = pos 0 ∷ pos 0 ∷ pos 0 ∷ [];
  high = pos 0 ∷ pos 0 ∷ pos 0 ∷ [];
  group = 0;
  index = 0;
  properties = 0;
  style = 0;
  weight = 0;
  color = 0;
}

-- an element with parts of a level, a type, bit C and the deleted bit
abbrev element : ℕ → ℕ → Bool → Bool → Parts → Element
element level kind cbit deleted parts = record { level = level; bit6 = false; cbit = cbit; kind = kind; deleted = deleted; body = Shown display parts [] }

abbrev tcb : Element
tcb = record { level = 8; bit6 = false; cbit = false; kind = 9; deleted = false; body = Silent [] }

-- a line of a level, a cell header of level 1 with a total, and the header or part of a run on level 1
abbrev line : ℕ → Bool → Bool → Element
line level cbit deleted = element level 3 cbit deleted (Line (origin ∷ origin ∷ []))

abbrev cell : Bool → Bool → ℕ → Element
cell cbit deleted total = element 1 2 cbit deleted (Cell total (0 ∷ 0 ∷ []) (replicate 42 0) origin)

abbrev box : ℕ → Bool → Element
box kind cbit = element 1 kind cbit false Plain

abbrev places : List Item → List (ℕ × ℕ)
places found = map (λ (i : Item). (i.number, i.depth)) found

-- the levels 1, 2, both, and others
abbrev one : Mask
one = record { 0 = 2 }

abbrev two : Mask
two = record { 0 = 4 }

abbrev both : Mask
both = record { 0 = 6 }

abbrev others : Mask
others = record { 0 = 2 ^ 63 + 56 }

sizes : (length (spell (cell false false 53)) ∷ length (spell (line 2 true false)) ∷ length (spell (box 27 false)) ∷ []) ≡ (92 ∷ 52 ∷ 36 ∷ [])
unfolding spell body_bytes parts_bytes display_bytes
sizes = refl

-- a cell of level 1 with a line of level 2: it is shown with its member, or not at all
cell_of_two : List Element
cell_of_two = tcb ∷ cell false false 53 ∷ line 2 true false ∷ []

shown-cell : (places (shown 2 two cell_of_two) ∷ places (shown 2 one cell_of_two) ∷ places (shown 2 others cell_of_two) ∷ places
    (tree_shown 2 two cell_of_two 1) ∷ [])
    ≡ (((1, 0) ∷ (2, 1) ∷ []) ∷ [] ∷ [] ∷ ((1, 0) ∷ (2, 1) ∷ []) ∷ [])
unfolding spell body_bytes parts_bytes display_bytes nest_within cell_of_two
shown-cell = refl

-- the same where the cell, or its member, is marked deleted
shown-deleted : (places (shown 2 both (tcb ∷ cell false true 53 ∷ line 2 true false ∷ [])) ∷ places
    (shown 2 both (tcb ∷ cell false false 53 ∷ line 2 true true ∷ [])) ∷ [])
    ≡ ([] ∷ [] ∷ [])
unfolding spell body_bytes parts_bytes display_bytes nest_within
shown-deleted = refl

-- a cell with an empty cell and a line, behind it a line: an empty group shows nothing
shown-nested : (places (shown 2 both (tcb ∷ cell false false 99 ∷ cell true false 27 ∷ line 2 true false ∷ line 1 false false ∷ [])) ∷ [])
    ≡ (((1, 0) ∷ (3, 1) ∷ (4, 0) ∷ []) ∷ [])
unfolding spell body_bytes parts_bytes display_bytes nest_within
shown-nested = refl

-- a total that is too small by one: the header shows nothing, and the orphan what its knot is
broken_cell : List Element
broken_cell = tcb ∷ cell false false 52 ∷ line 1 true false ∷ []

shown-broken : (places (shown 2 one broken_cell) ∷ places (tree_shown 2 one broken_cell 1) ∷ places (tree_shown 2 one broken_cell 2) ∷ [])
    ≡ (((2, 0) ∷ []) ∷ [] ∷ ((2, 0) ∷ []) ∷ [])
unfolding spell body_bytes parts_bytes display_bytes nest_within broken_cell
shown-broken = refl

-- a B-spline shows its header alone, and a shared cell definition nothing
two_runs : List Element
two_runs = tcb ∷ box 27 false ∷ box 26 true ∷ box 34 false ∷ line 1 true false ∷ []

shown-runs : (places (shown 2 one two_runs) ∷ places (shown 2 two two_runs) ∷ places (tree_shown 2 one two_runs 1) ∷ places (tree_shown 2 one two_runs 3) ∷ [])
    ≡ (((1, 0) ∷ []) ∷ [] ∷ ((1, 0) ∷ []) ∷ [] ∷ [])
unfolding spell body_bytes parts_bytes display_bytes nest_within two_runs
shown-runs = refl
