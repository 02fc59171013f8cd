use Rattle.nest_tree.proofs.Elements.{element_row}
use Rattle.nest_tree.proofs.laws.elements_have_rows.Goals as goal

pub returns : goal.returns
returns c = λ dim e axes good. element_row dim e axes good
