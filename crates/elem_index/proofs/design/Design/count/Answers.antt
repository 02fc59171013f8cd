use Rattle.std.proofs.Common.{◌∙◌, arith}
use Rattle.elem_index.proofs.Places.{length-elements, few_elements}
use Rattle.elem_index.proofs.design.Design.count.Goals as goal

pub overflow_cast-result : goal.overflow_cast-result
overflow_cast-result c = omega (arith, c.len.ensures, length-elements c.args.self.now c.requires, few_elements c.args.self.now c.requires)

pub returns : goal.returns
returns c = c.len.ensures ∙ length-elements c.args.self.now c.requires
