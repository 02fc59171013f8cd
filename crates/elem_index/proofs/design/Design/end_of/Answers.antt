use Rattle.std.proofs.Common.{◌∙◌, refl, arith}
use Rattle.elem_index.proofs.Places.{few_elements, last_ends}
use Rattle.elem_index.proofs.design.Design.end_of.Goals as goal

pub overflow_add-n : goal.overflow_add-n
overflow_add-n c = omega (arith, few_elements c.args.self.now c.requires.whole, c.requires.known)

pub returns-in-None : goal.returns-in-None
returns-in-None c = c.len.ensures ∙ last_ends c.args.self.now c.requires.whole c.args.n (c.in-None.ensures.none.0 refl)
