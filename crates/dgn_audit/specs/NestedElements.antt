-- Where a part begins and ends, and what is read of one element of a design. Contracts of private functions alone cite this.
use Rattle.std.specs.Prelude.{ℕ, ◌≡◌, Option, Some, None, List, length, unwrap_or}
use Rattle.dgn_drawing.specs.Element.{Element}
use Rattle.dgn_drawing.specs.Rows.{row_of}
use Rattle.dgn_drawing.specs.Numbering.{Mark, mark_of, span_of}
use Rattle.elem_index.specs.declared.design.Design.{Design}
use Rattle.elem_index.specs.Design.{elements}
use Rattle.nest_tree.specs.Shapes.{code_knot}
use Rattle.edit_ops.specs.ElementViews.{IsElementView}
use Rattle.dgn_audit.specs.declared.nested_element.NestedElement.{NestedElement}

-- the numbers of the first element of the part of element n and behind its last one, or of all elements where none is named
abbrev pub bounds_of : List Element → Option ℕ → ℕ × ℕ
bounds_of es None = (0, length es)
bounds_of es (Some n) = unwrap_or (span_of row_of es n) (n, n)

-- this is element n of the design, among its trees
pub record IsNestedElement (d : Design) (n : ℕ) (s : NestedElement) : Type 0 where
  pub mark : Mark
  pub marked : mark_of row_of (elements d) n ≡ Some mark
  pub knot : s.knot ≡ code_knot mark.knot
  pub parent : s.parent ≡ mark.parent
  pub end : s.end ≡ mark.end
  pub view : IsElementView d n s.view
