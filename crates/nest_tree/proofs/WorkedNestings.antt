-- Worked drawings: the rows of their elements, and the mark of each one.
use Rattle.std.proofs.Common.{◌≡◌, ℕ, List, [], ◌∷◌, refl, true, false}
use Rattle.std.specs.Prelude.{Some, None}
use Rattle.dgn_drawing.specs.declared.row.Row.{Row}
use Rattle.dgn_drawing.specs.Nesting.{Knot, Leaf, Group, Run, Loose, itself, nest_within, forest}
use Rattle.dgn_drawing.specs.Numbering.{Mark, marks_of, first_broken_of}

-- a row by its size, type and total
abbrev element : ℕ → ℕ → ℕ → Row
element size kind total = record { size = size; kind = kind; cbit = false; total = total }

abbrev member : ℕ → ℕ → ℕ → Row
member size kind total = record { size = size; kind = kind; cbit = true; total = total }

abbrev tcb : Row
tcb = element 1536 9 0

abbrev root : Knot → ℕ → Mark
root knot end = record { knot = knot; depth = 0; parent = None; end = end }

abbrev below : ℕ → ℕ → Knot → ℕ → Mark
below parent depth knot end = record { knot = knot; depth = depth; parent = Some parent; end = end }

-- a cell with one line
abbrev cell : ℕ → List Row
cell total = tcb ∷ element 92 2 total ∷ member 52 3 0 ∷ []

marks-cell : marks_of (forest itself (cell 53)) ≡ (root Leaf 1 ∷ root Group 3 ∷ below 1 1 Leaf 3 ∷ [])
unfolding nest_within
marks-cell = refl

-- its total is too small by one: the header is loose, and the line an orphan
marks-broken : marks_of (forest itself (cell 52)) ≡ (root Leaf 1 ∷ root Loose 2 ∷ root Leaf 3 ∷ [])
unfolding nest_within
marks-broken = refl

broken_numbers : (first_broken_of itself (cell 52) 0 ∷ first_broken_of itself (cell 52) 1 ∷ first_broken_of itself (cell 52) 2 ∷ first_broken_of itself
    (cell 52) 3 ∷ first_broken_of itself (cell 53) 1 ∷ [])
    ≡ (Some None ∷ Some (Some 1) ∷ Some (Some 2) ∷ None ∷ Some None ∷ [])
unfolding nest_within
broken_numbers = refl

-- a cell in a cell
marks-nested : marks_of (forest itself (tcb ∷ element 92 2 112 ∷ member 92 2 66 ∷ member 78 6 0 ∷ []))
    ≡ (root Leaf 1 ∷ root Group 4 ∷ below 1 1 Group 4 ∷ below 2 2 Leaf 4 ∷ [])
unfolding nest_within
marks-nested = refl

-- a B-spline with one part, and a shared cell definition with one line
marks-runs : marks_of (forest itself (tcb ∷ element 36 27 0 ∷ member 36 26 0 ∷ element 36 34 0 ∷ member 52 3 0 ∷ []))
    ≡ (root Leaf 1 ∷ root Run 3 ∷ below 1 1 Leaf 3 ∷ root Run 5 ∷ below 3 1 Leaf 5 ∷ [])
unfolding nest_within
marks-runs = refl

-- a complex chain with a silent member
marks-chain : marks_of (forest itself (tcb ∷ element 40 12 3 ∷ member 4 127 0 ∷ []))
    ≡ (root Leaf 1 ∷ root Group 3 ∷ below 1 1 Leaf 3 ∷ [])
unfolding nest_within
marks-chain = refl

-- the parts of a usual file: setup elements, a text node with two texts, a complex shape of one line string
marks-usual : marks_of (forest itself
    (tcb ∷ element 32 8 0 ∷ element 32 10 0 ∷ element 32 5 0 ∷ element 70 7 80 ∷ member 64 17 0 ∷ member 64 17 0 ∷ element 48 14 36 ∷ member 62 4 0 ∷ []))
    ≡ (root Leaf 1 ∷ root Leaf 2 ∷ root Leaf 3 ∷ root Leaf 4 ∷ root Group 7 ∷ below 4 1 Leaf 6 ∷ below 4 1 Leaf 7 ∷ root Group 9 ∷ below 7 1 Leaf 9 ∷ [])
unfolding nest_within
marks-usual = refl

-- inside a group a shared cell definition is a leaf, and only parts of a B-spline stand below one
marks-inside : marks_of (forest itself (tcb ∷ element 40 12 71 ∷ member 36 34 0 ∷ member 36 24 0 ∷ member 32 21 0 ∷ member 36 22 0 ∷ []))
    ≡ (root Leaf 1 ∷ root Group 6 ∷ below 1 1 Leaf 3 ∷ below 1 1 Run 5 ∷ below 3 2 Leaf 5 ∷ below 1 1 Leaf 6 ∷ [])
unfolding nest_within
marks-inside = refl

-- a group ends with the list that it stands in: the inner header would reach past the outer one's members
marks-within : marks_of (forest itself (tcb ∷ element 40 12 21 ∷ member 40 12 3 ∷ member 4 5 0 ∷ []))
    ≡ (root Leaf 1 ∷ root Group 3 ∷ below 1 1 Loose 3 ∷ root Leaf 4 ∷ [])
unfolding nest_within
marks-within = refl
