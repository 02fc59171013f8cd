use Rattle.dgn_drawing.specs.Rows.{row_of}
use Rattle.dgn_drawing.specs.Nesting.{itself}
use Rattle.nest_tree.proofs.TreesApart.{forest_apart}
use Rattle.nest_tree.proofs.NumbersApart.{numbered_behind, first_marks}
use Rattle.nest_tree.proofs.laws.appended_trees_nest_apart.Goals as goal

pub returns-clause-elements : goal.returns-clause-elements
returns-clause-elements c = λ es new some free. forest_apart row_of es new some free

pub returns-clause-rows : goal.returns-clause-rows
returns-clause-rows c = λ rows new some free. forest_apart itself rows new some free

pub returns-clause-numbered : goal.returns-clause-numbered
returns-clause-numbered c = λ rows new some free. numbered_behind rows new some free

pub returns-clause-taken : goal.returns-clause-taken
returns-clause-taken c = λ rows n some within free. first_marks rows n some within free
