use Rattle.std.proofs.Common.{sym, ◌∙◌, arith}
use Rattle.elem_index.specs.Design.{elements}
use Rattle.edit_ops.proofs.PartSpan.{part_above, alone_bytes, alone_live}
use Rattle.edit_ops.proofs.parts.lone.lone_at.Goals as goal

pub overflow_sub-part_end : goal.overflow_sub-part_end
overflow_sub-part_end c =
    let above = part_above (elements c.args.d.now) c.args.n c.requires.known c.part_end.result
    c.part_end.ensures in
    omega arith

pub returns-clause-part : goal.returns-clause-part
returns-clause-part c =
    let found = c.in_ok-found.ensures.found in
    alone_bytes (elements c.args.d.now) c.args.n c.requires.known c.part_end.result
    c.part_end.ensures (omega arith) found.element
    found.there
    ∙ sym found.bytes

pub returns-clause-live : goal.returns-clause-live
returns-clause-live c =
    let found = c.in_ok-found.ensures.found in
    alone_live (elements c.args.d.now) c.args.n c.requires.known c.part_end.result
    c.part_end.ensures (omega arith) found.element
    found.there
    (sym found.deleted ∙ c.if-found.false)
