use Rattle.std.proofs.Common.{◌≡◌, [], map, string_bytes, refl, ap}
use Rattle.std.specs.IoError.{error_kind}
use Rattle.std.specs.declared.io.ErrorKind.TheVariants.{OutOfMemory}
use Rattle.dgn_tool.specs.Request.{request_of}
use Rattle.dgn_desk.specs.Seen.{seen}
use Rattle.dgn_tool.proofs.HeldBack.{ok_exits, ok_stops, err_exits, err_stops}
use Rattle.dgn_tool.proofs.words.run_flushed.Goals as goal

pub returns-clause-words : goal.returns-clause-words
returns-clause-words g c =
    ok_exits c.args.given c.new-buffered.ensures.seen (ap (seen g.D.Desk) c.into_inner.ensures) c.flushed-status.ensures.writes refl c.exit_code.ensures
    (λ words. request_of (map string_bytes words.items)) c.end_given-ended.ensures.words

pub returns-clause-none : goal.returns-clause-none
returns-clause-none g c =
    err_exits c.args.given c.new-buffered.ensures.seen (ap (seen g.D.Desk) c.into_inner.ensures) c.flushed-status.ensures.writes refl c.exit_code.ensures
    (λ error. ¬ (error_kind error ≡ OutOfMemory)) (request_of []) c.end_given-ended.ensures.none

pub returns-clause-prefix : goal.returns-clause-prefix
returns-clause-prefix g c =
    ok_stops c.args.given c.new-buffered.ensures.seen (ap (seen g.D.Desk) c.into_inner.ensures) c.flushed-status.ensures.writes refl c.exit_code.ensures
    (λ words. request_of (map string_bytes words.items)) c.end_given-ended.ensures.words

pub returns-clause-prefix_of_none : goal.returns-clause-prefix_of_none
returns-clause-prefix_of_none g c =
    err_stops c.args.given c.new-buffered.ensures.seen (ap (seen g.D.Desk) c.into_inner.ensures) c.flushed-status.ensures.writes refl c.exit_code.ensures
    (λ error. ¬ (error_kind error ≡ OutOfMemory)) (request_of []) c.end_given-ended.ensures.none
