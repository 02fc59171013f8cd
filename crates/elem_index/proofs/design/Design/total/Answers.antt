use Rattle.std.proofs.Common.{refl, arith}
use Rattle.elem_index.proofs.Places.{total_inside, total_read}
use Rattle.elem_index.proofs.design.Design.total.Goals as goal

pub unreachable-requires-in-None : goal.unreachable-requires-in-None
unreachable-requires-in-None c =
    let long = total_inside c.args.self.now c.requires.whole c.args.n c.in-Some.bytes.now c.in-Some.ensures.bytes
    c.requires.counted in
    omega (arith, c.in-None.ensures.none.0 refl)

pub returns : goal.returns
returns c =
    total_read c.args.self.now c.requires.whole c.args.n c.in-Some.bytes.now c.in-Some.ensures.bytes c.requires.counted
    c.in-Some-total.total c.in-Some-total.ensures.total
