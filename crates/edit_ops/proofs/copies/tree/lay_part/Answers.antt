use Rattle.std.proofs.Common.{ℕ, length, ap, ◌∙◌, arith}
use Rattle.elem_index.specs.Design.{elements}
use Rattle.elem_index.proofs.Places.{body_is, axes_of}
use Rattle.edit_ops.proofs.PartSpan.{part_starts}
use Rattle.edit_ops.specs.Rules.{rule_of}
use Rattle.edit_ops.specs.Written.{IsReady}
use Rattle.edit_ops.proofs.KeptRules.{edit_keeps}
use Rattle.edit_ops.proofs.CopiedPart.{puts_rise, bytes_copied}
use Rattle.edit_ops.proofs.copies.tree.lay_part.Goals as goal

pub overflow_cast-place_of : goal.overflow_cast-place_of
overflow_cast-place_of c =
    let starts = part_starts (elements c.args.d.now) c.args.n c.requires.known in
    let body = ap (length {A = ℕ}) (body_is c.args.d.now c.is_whole.ensures) in
    let few = c.is_whole.ensures.is_open.few in
    omega (arith, c.place_of.ensures)

pub lay_all-requires : goal.lay_all-requires
lay_all-requires c =
    puts_rise c.args.d.now.dim (elements c.args.d.now) (rule_of c.args.d.now.dim c.args._edit.now)
    (IsReady c.args.d.now.dim c.args._edit.now)
    (edit_keeps c.args.d.now.dim (axes_of c.args.d.now c.is_whole.ensures) c.args._edit.now c.requires.fits) c.args.n
    c.is_whole.ensures.is_open.opens.each c.requires.ready
    c.place_of.result c.args.copy.now c.args.patches.now c.place_of.ensures c.requires.same c.requires.patches

pub returns : goal.returns
returns c =
    c.free_first.ensures
    ∙ bytes_copied c.args.d.now.dim (elements c.args.d.now) (rule_of c.args.d.now.dim c.args._edit.now)
    (IsReady c.args.d.now.dim c.args._edit.now)
    (edit_keeps c.args.d.now.dim (axes_of c.args.d.now c.is_whole.ensures) c.args._edit.now c.requires.fits) c.args.n
    c.is_whole.ensures.is_open.opens.each c.requires.ready
    c.place_of.result c.args.copy.now c.args.patches.now c.place_of.ensures c.requires.same c.requires.patches
    c.lay_all.new.bytes c.lay_all.ensures
