-- Worked drawings: a cell whose total leaves out its own attribute data, the same one locked, and a complex chain that
-- stands by itself with bit C.
use Rattle.std.proofs.Common.{◌≡◌, ℕ, List, [], ◌∷◌, refl, Bool, true, false}
use Rattle.std.specs.Prelude.{ℤ, pos, replicate}
use Rattle.dgn_drawing.specs.Element.{Display, Body, Silent, Shown, Cell, Line, Header, Element}
use Rattle.dgn_drawing.specs.Spelling.{display_bytes, parts_bytes, body_bytes, spell}
use Rattle.std.proofs.Common.{map}
use Rattle.dgn_drawing.specs.Nesting.{Leaf, Group, Loose, nest_within, forest}
use Rattle.dgn_drawing.specs.Numbering.{Mark, marks_of}
use Rattle.dgn_drawing.specs.Rows.{row_of}
use Rattle.dgn_mend.specs.Mending.{mended_within, mend, changes}
use Rattle.dgn_mend.specs.declared.change.Change.{Change}

abbrev display : ℤ → ℤ → ℕ → ℕ → Display
display right top index properties =
    record { low = pos 0 ∷ pos 0 ∷ pos 0 ∷ []; high = right ∷ top ∷ pos 0 ∷ []; group = 0; index = index; properties = properties; style = 0; weight = 0; color = 0 }

abbrev element : Bool → ℕ → Body → Element
element cbit kind body = record { level = 1; bit6 = false; cbit = cbit; kind = kind; deleted = false; body = body }

abbrev first : Element
first = element false 9 (Silent [])

abbrev line : ℤ → ℤ → Element
line right top = element true 3 (Shown (display right top 10 0) (Line ((pos 0 ∷ pos 0 ∷ []) ∷ (right ∷ top ∷ []) ∷ [])) [])

-- a cell of 100 bytes, the last eight of which are attribute data
abbrev cell : ℕ → ℕ → Element
cell total properties =
    element false 2 (Shown (display (pos 100) (pos 50) 30 properties) (Cell total (1683 ∷ 0 ∷ []) (replicate 42 170) (pos 0 ∷ pos 0 ∷ [])) (replicate 8 0))

abbrev drawing : ℕ → ℕ → List Element
drawing total properties = first ∷ cell total properties ∷ line (pos 100) (pos 50) ∷ []

-- its total gets the four words that it left out
mended-cell : mend 2 (drawing 53 2048) ≡ drawing 57 2048
unfolding mended_within spell body_bytes display_bytes parts_bytes
mended-cell = refl

changes-cell : changes 2 (drawing 53 2048) ≡ record { number = 1; old = 53; new = 57; freed = false } ∷ []
unfolding mended_within spell body_bytes display_bytes parts_bytes
changes-cell = refl

-- a locked one stays
mended-locked : mend 2 (drawing 53 2304) ≡ drawing 53 2304
unfolding mended_within spell body_bytes display_bytes parts_bytes
mended-locked = refl

changes-locked : changes 2 (drawing 53 2304) ≡ []
unfolding mended_within spell body_bytes display_bytes parts_bytes
changes-locked = refl

-- a complex chain with bit C that stands by itself is freed
abbrev chain : Bool → Element
chain cbit = element cbit 12 (Shown (display (pos 1) (pos 1) 8 0) (Header 27 1) [])

mended-chain : mend 2 (first ∷ chain true ∷ line (pos 1) (pos 1) ∷ []) ≡ first ∷ chain false ∷ line (pos 1) (pos 1) ∷ []
unfolding mended_within spell body_bytes display_bytes parts_bytes
mended-chain = refl

changes-chain : changes 2 (first ∷ chain true ∷ line (pos 1) (pos 1) ∷ []) ≡ record { number = 1; old = 27; new = 27; freed = true } ∷ []
unfolding mended_within spell body_bytes display_bytes parts_bytes
changes-chain = refl

-- a loose cell that waits, a locked chain whose total leaves its attribute data out, and in it a chain that ends behind it: a
-- cell there gets its members, of which the chain before it has only the first
abbrev waiting_cell : Element
waiting_cell = element false 2 (Shown (display (pos 100) (pos 50) 30 0) (Cell 1 (1683 ∷ 0 ∷ []) (replicate 42 170) (pos 0 ∷ pos 0 ∷ [])) [])

abbrev locked_chain : Element
locked_chain = element true 12 (Shown (display (pos 1) (pos 1) 4 2304) (Header 21 1) (replicate 4 0))

abbrev inner_chain : Element
inner_chain = element true 12 (Shown (display (pos 1) (pos 1) 8 0) (Header 77 1) [])

abbrev inner_cell : ℕ → Element
inner_cell total =
    element true 2 (Shown (display (pos 100) (pos 50) 30 2048) (Cell total (1683 ∷ 0 ∷ []) (replicate 42 170) (pos 0 ∷ pos 0 ∷ [])) (replicate 8 0))

abbrev crossing : ℕ → List Element
crossing total =
    first ∷ waiting_cell ∷ locked_chain ∷ inner_chain ∷ inner_cell total ∷ line (pos 1) (pos 1) ∷ line (pos 1) (pos 1) ∷ []

mended-crossing : mend 2 (crossing 79) ≡ crossing 83
unfolding mended_within spell body_bytes display_bytes parts_bytes
mended-crossing = refl

marks-crossing : map (λ (m : Mark). m.knot) (marks_of (forest row_of (crossing 83))) ≡ Leaf ∷ Loose ∷ Loose ∷ Group ∷ Loose ∷ Leaf ∷ Leaf ∷ []
unfolding mended_within nest_within spell body_bytes display_bytes parts_bytes
marks-crossing = refl
