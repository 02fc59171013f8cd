use Rattle.std.proofs.Common.{◌∙◌, sym, ap}
use Rattle.std.specs.Prelude.{None}
use Rattle.dgn_drawing.specs.declared.row.Row.{Row}
use Rattle.dgn_drawing.specs.Rows.{row_of}
use Rattle.dgn_drawing.specs.Nesting.{Forest, forest}
use Rattle.dgn_drawing.specs.Numbering.{marks_of}
use Rattle.nest_tree.proofs.SameTrees.{known}
use Rattle.nest_tree.proofs.ByRows.{forest_rows, marks-map}
use Rattle.nest_tree.proofs.laws.nesting_looks_at_rows_alone.Goals as goal

pub returns-clause-nested : goal.returns-clause-nested
returns-clause-nested c = λ es. forest_rows row_of es

pub returns-clause-numbered : goal.returns-clause-numbered
returns-clause-numbered c = λ es. sym (marks-map row_of (forest row_of es) 0 0 None) ∙ ap (λ (f : Forest Row). marks_of f) (forest_rows row_of es)

pub returns-clause-known : goal.returns-clause-known
returns-clause-known c = λ f same. known row_of f same
