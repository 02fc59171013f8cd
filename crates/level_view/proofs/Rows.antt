-- The rows of a whole design can be nested.
use Rattle.std.proofs.Common.{◌≡◌, List, map, arith}
use Rattle.std.specs.List.{AllByRecursion}
use Rattle.dgn_drawing.specs.declared.row.Row.{Row}
use Rattle.dgn_drawing.specs.Rows.{row_of}
use Rattle.elem_index.specs.declared.design.Design.{Design}
use Rattle.elem_index.specs.Design.{elements, IsWhole}
use Rattle.elem_index.proofs.Places.{axes_of, few_elements}
use Rattle.nest_tree.specs.Shapes.{IsRow}
use Rattle.nest_tree.proofs.NestableRows.{AreNestable, nestable}

module _ (d : Design) (whole : IsWhole d) (rows : List Row) (are : rows ≡ map row_of (elements d)) where
  able : AreNestable rows
  able = nestable d.dim (axes_of d whole) (elements d) whole.is_open.opens.each whole.is_open.opens.first (omega (arith, few_elements d whole)) rows are

  pub rows_each : AllByRecursion IsRow rows
  rows_each = able.each
