use Rattle.std.proofs.Common.{◌∙◌, ◌<◌, length, arith}
use Rattle.std.proofs.lemmas.List.{get_or_default}
use Rattle.elem_index.specs.Design.{elements}
use Rattle.elem_index.proofs.Places.{length-elements, length-kept, get_or-kept}
use Rattle.elem_index.proofs.design.Design.offset.Goals as goal

pub index-requires : goal.index-requires
index-requires c = omega (arith, c.if-n-count.true, c.count.ensures, length-elements c.args.self.now c.requires)

pub returns-then-n-count-clause-place : goal.returns-then-n-count-clause-place
returns-then-n-count-clause-place c =
    let within : c.args.n < length (elements c.args.self.now) = omega (arith, c.if-n-count.true, c.count.ensures) in
    let kept : c.args.n < length c.args.self.now.kept.items = omega (arith, length-kept c.args.self.now c.requires) in
    c.index.ensures ∙ get_or_default c.args.self.now.kept.items c.args.n c.index.result.now 0 kept ∙ get_or-kept c.args.self.now c.requires c.args.n within
