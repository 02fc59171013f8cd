-- The rows of the elements of a file can be nested.
use Rattle.std.proofs.Common.{◌≡◌, ℕ, ◌<◌, List, [], ◌∷◌, length, map, sym, ap, subst, arith}
use Rattle.std.specs.List.{AllByRecursion}
use Rattle.std.proofs.lemmas.List.{length-map}
use Rattle.dgn_drawing.specs.declared.row.Row.{Row}
use Rattle.dgn_drawing.specs.Element.{Element}
use Rattle.dgn_drawing.specs.WellFormed.{IsDimension, IsWellFormed}
use Rattle.dgn_drawing.specs.Opening.{BeginsWithTcb}
use Rattle.dgn_drawing.specs.Rows.{row_of}
use Rattle.nest_tree.specs.Shapes.{IsRow}
use Rattle.nest_tree.proofs.Elements.{element_row}

pub each_row : (dim : ℕ) → IsDimension dim → (es : List Element) → AllByRecursion (IsWellFormed dim) es → AllByRecursion IsRow (map row_of es)
each_row dim axes [] good = tt
each_row dim axes (e ∷ es) good = ((element_row dim e axes good.0).is_row, each_row dim axes es good.1)

some_first : (es : List Element) → BeginsWithTcb es → 0 < length es
some_first [] begins = absurd begins
some_first (e ∷ es) begins = omega arith

-- what `nest` asks of rows
pub record AreNestable (rows : List Row) : Type 0 where
  pub some : 0 < length rows
  pub few : length rows < 4294967295
  pub each : AllByRecursion IsRow rows

pub nestable : (dim : ℕ) → IsDimension dim → (es : List Element) → AllByRecursion (IsWellFormed dim) es → BeginsWithTcb es → length es < 4294967295
    → (rows : List Row) → rows ≡ map row_of es → AreNestable rows
nestable dim axes es good begins few rows are =
    let long : length rows ≡ length es = omega (arith, ap (length {A = Row}) are, length-map es row_of) in
    record {
      some = omega (arith, long, some_first es begins);
      few = omega (arith, long);
      each = subst (AllByRecursion IsRow) (sym are) (each_row dim axes es good);
    }
