-- How large elements are at the least, and how many counted headers lie in each other.
use Rattle.std.specs.Prelude.{ℕ, ◌+◌, ◌≤◌, ◌<◌, if◌then◌else◌, List, [], ◌∷◌, ◌++◌}
use Rattle.dgn_layout.specs.declared.types.Class.{Class}
use Rattle.dgn_layout.specs.Classes.{class_of}
use Rattle.dgn_drawing.specs.declared.row.Row.{Row}
use Rattle.dgn_drawing.specs.Nesting.{Forest, NoTree, Tree, is_counted}

-- the least size of an element without a fault: its display header, and in a counted one the total and one
-- word more; a silent one has its first four bytes
abbrev pub least_size : Class → ℕ
least_size Class.Counted = 40
least_size Class.Silent = 4
least_size other = 36

abbrev pub IsSized : Row → Type 0
IsSized r = least_size (class_of r.kind) ≤ r.size

-- a total is a word
abbrev pub IsWordTotal : Row → Type 0
IsWordTotal r = r.total < 65536

-- for each element of trees: how many counted headers there are among it and those that it lies below, beside
-- so many above the trees
abbrev pub headers : Forest Row → ℕ → List ℕ
headers NoTree above = []
headers (Tree knot h below behind) above =
    let here = if is_counted (class_of h.kind) then above + 1 else above in here ∷ (headers below here ++ headers behind above)
