-- The rows of elements without a fault have the sizes and totals by which no element lies deep.
use Rattle.std.proofs.Common.{◌≡◌, ℕ, List, [], ◌∷◌, map, sym, subst}
use Rattle.std.specs.List.{AllByRecursion}
use Rattle.dgn_drawing.specs.declared.row.Row.{Row}
use Rattle.dgn_drawing.specs.Element.{Element}
use Rattle.dgn_drawing.specs.Rows.{row_of}
use Rattle.dgn_drawing.specs.WellFormed.{IsDimension, IsWellFormed}
use Rattle.nest_tree.specs.Depths.{IsSized, IsWordTotal}
use Rattle.nest_tree.proofs.Elements.{element_row}
use Rattle.elem_index.specs.declared.design.Design.{Design}
use Rattle.elem_index.specs.Design.{elements, IsWhole}
use Rattle.elem_index.proofs.Places.{axes_of}

-- those of some elements
pub rows_fit : (dim : ℕ) → IsDimension dim → (es : List Element) → AllByRecursion (IsWellFormed dim) es → AllByRecursion IsSized (map row_of es)
    × AllByRecursion IsWordTotal (map row_of es)
rows_fit dim axes [] good = (tt, tt)
rows_fit dim axes (e ∷ es) good =
    let row = element_row dim e axes good.0 in
    let rest = rows_fit dim axes es good.1 in
    ((row.sized, rest.0), (row.word, rest.1))

-- so the rows that a design's nesting has are large enough
pub rows_sized : (d : Design) → IsWhole d → (rows : List Row) → rows ≡ map row_of (elements d) → AllByRecursion IsSized rows
rows_sized d whole rows nesting =
    subst (AllByRecursion IsSized) (sym nesting) (rows_fit d.dim (axes_of d whole) (elements d) whole.is_open.opens.each).0
