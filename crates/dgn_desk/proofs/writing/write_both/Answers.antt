use Rattle.std.proofs.Common.{◌++◌}
use Rattle.std.proofs.lemmas.Result.{err_from_is_err_and}
use Rattle.dgn_desk.proofs.Telling.{added_first, added_both}
use Rattle.dgn_desk.proofs.writing.write_both.Goals as goal

pub returns-in_err-write_more-clause-changes : goal.returns-in_err-write_more-clause-changes
returns-in_err-write_more-clause-changes g c =
    let stopped = err_from_is_err_and c.from_residual.result c.from_residual.ensures.1 in
    rw stopped.1 (λ name so_far old start. added_first stopped.0 name so_far c.args.first.now c.args.second.now old _
    (c.in_err-write_more.ensures.changes name so_far old start))

pub returns-clause-changes : goal.returns-clause-changes
returns-clause-changes g c = λ name so_far old start.
    added_both _ name so_far c.args.first.now c.args.second.now old _
    (c.write_more-2.ensures.changes name (so_far ++ c.args.first.now) old (c.in_ok-write_more.ensures.changes name so_far old start))
