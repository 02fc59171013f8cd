use Rattle.std.proofs.Common.{◌++◌, take, option_map, ap, ◌∙◌, append_assoc}
use Rattle.std.proofs.lemmas.Result.{err_from_is_err_and}
use Rattle.dgn_desk.specs.Content.{filed, written}
use Rattle.dgn_desk.proofs.Telling.{written-filed, added_part, moved, target_written}
use Rattle.dgn_desk.proofs.writing.write_more.Goals as goal

pub returns-in_err-count-clause-changes : goal.returns-in_err-count-clause-changes
returns-in_err-count-clause-changes g c =
    let stopped = err_from_is_err_and c.from_residual.result c.from_residual.ensures.1 in
    let before = c.pieces.invariant in
    rw stopped.1 (λ name so_far old start. added_part stopped.0 name so_far c.args.bytes.now before.done c.pieces.rest.now old _ before.split
    (c.in_err-count.ensures.changes ∙ before.changes name so_far old start))

pub pieces-preserved : goal.pieces-preserved
pieces-preserved g c =
    let before = c.pieces.invariant in
    let rest = c.pieces.rest.now in
    let count = c.in_ok-count.count in
    let wrote = c.in_ok-count.ensures in
    record {
      done = before.done ++ take count rest;
      split = rw c.split_at.ensures.back (moved c.args.bytes.now before.done rest count before.split);
      changes = λ name so_far old start. wrote.changes
          ∙ ap (option_map (written (take count rest))) (before.changes name so_far old start)
          ∙ written-filed name (so_far ++ before.done) (take count rest) old
          ∙ ap (λ bytes. option_map (filed name bytes) old) (append_assoc so_far before.done (take count rest));
      writes = wrote.cause ∙ before.writes;
      reads = wrote.other ∙ before.reads;
      stays_willing = λ willing. wrote.stays_willing (before.stays_willing willing);
      target = λ target. target_written (take count rest) _ _ wrote.changes (before.target target);
    }
