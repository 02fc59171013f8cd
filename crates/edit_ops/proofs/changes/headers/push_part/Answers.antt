use Rattle.std.proofs.lemmas.Result.{err_from_is_err_and}
use Rattle.elem_index.specs.Design.{elements}
use Rattle.edit_ops.proofs.AcceptedEdit.{kept}
use Rattle.edit_ops.proofs.SumsLast.{head_readable, head_leaves}
use Rattle.edit_ops.proofs.changes.headers.push_part.Goals as goal

pub push_above-requires-clause-head : goal.push_above-requires-clause-head
push_above-requires-clause-head c =
    let d = c.args.d.now in
    head_readable (elements d) c.args.edit.now c.args.n c.requires.readable (kept d.dim (elements d) c.args.n c.requires.known c.requires.unkept)

pub returns-in_err-push_above : goal.returns-in_err-push_above
returns-in_err-push_above c =
    let d = c.args.d.now in
    let p = err_from_is_err_and c.from_residual.result c.from_residual.ensures.1 in
    rw (p.1, p.2)
    (head_leaves d.dim (elements d) c.args.edit.now c.args.n c.in_err-push_above.field-0.0
    (kept d.dim (elements d) c.args.n c.requires.known c.requires.unkept) c.in_err-push_above.ensures.refused)
