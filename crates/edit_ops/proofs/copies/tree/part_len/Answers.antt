use Rattle.std.proofs.Common.{ℕ, length, ap, arith}
use Rattle.elem_index.specs.Design.{elements}
use Rattle.elem_index.proofs.Places.{body_is}
use Rattle.edit_ops.proofs.PartSpan.{part_ends, part_size, part_inside}
use Rattle.edit_ops.proofs.copies.tree.part_len.Goals as goal

pub place_of-requires : goal.place_of-requires
place_of-requires c = record {
  known = part_ends (elements c.args.d.now) c.args.n c.requires.known c.part_end.result
      c.part_end.ensures;
}

pub overflow_sub-result : goal.overflow_sub-result
overflow_sub-result c =
    let size = part_size (elements c.args.d.now) c.args.n c.requires.known c.part_end.result
    c.part_end.ensures in
    omega arith

pub returns-clause-exact : goal.returns-clause-exact
returns-clause-exact c =
    let size = part_size (elements c.args.d.now) c.args.n c.requires.known c.part_end.result
    c.part_end.ensures in
    omega arith

pub returns-clause-bounded : goal.returns-clause-bounded
returns-clause-bounded c =
    let inside = part_inside (elements c.args.d.now) c.args.n c.requires.known c.part_end.result
    c.part_end.ensures in
    let few = c.is_whole.ensures.is_open.few in
    omega (arith, ap (length {A = ℕ}) (body_is c.args.d.now c.is_whole.ensures))
