use Rattle.std.proofs.Common.{rules, ◌++◌, take, option_map, ap, ◌∙◌}
use Rattle.std.proofs.lemmas.Result.{err_from_is_err_and}
use Rattle.dgn_desk.specs.Content.{spoken}
use Rattle.dgn_desk.proofs.Telling.{spoken-append, said_part, moved}
use Rattle.dgn_desk.proofs.writing.say_all.Goals as goal

pub returns-in_err-count : goal.returns-in_err-count
returns-in_err-count g c =
    let stopped = err_from_is_err_and c.from_residual.result c.from_residual.ensures.1 in
    let before = c.pieces.invariant in
    let told = said_part stopped.0 c.args.bytes.now before.done c.pieces.rest.now _ _ before.split (c.in_err-count.ensures.changes ∙ before.changes) in
    rw stopped.1 (record {
      cause = search rules;
      other = c.in_err-count.ensures.other ∙ before.reads;
      changes = told;
      stays_willing = λ willing. c.in_err-count.ensures.stays_willing (before.stays_willing willing);
      never_fails = search rules;
    })

pub pieces-preserved : goal.pieces-preserved
pieces-preserved g c =
    let before = c.pieces.invariant in
    let rest = c.pieces.rest.now in
    let count = c.in_ok-count.count in
    let said = c.in_ok-count.ensures in
    record {
      done = before.done ++ take count rest;
      split = rw c.split_at.ensures.back (moved c.args.bytes.now before.done rest count before.split);
      changes = said.changes ∙ ap (option_map (spoken (take count rest))) before.changes ∙ spoken-append before.done (take count rest) _;
      writes = said.cause ∙ before.writes;
      reads = said.other ∙ before.reads;
      stays_willing = λ willing. said.stays_willing (before.stays_willing willing);
    }
