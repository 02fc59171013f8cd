use Rattle.std.proofs.lemmas.Result.{err_from_is_err_and}
use Rattle.dgn_desk.specs.Seen.{seen}
use Rattle.elem_index.specs.Answers.{opened_of}
use Rattle.dgn_answers.specs.Steps.{steps_of}
use Rattle.dgn_tool.specs.Outcome.{edited}
use Rattle.dgn_import.specs.Seconds.{seconds_left}
use Rattle.dgn_tool.proofs.RunParts.{wants}
use Rattle.dgn_tool.proofs.edit.run_script.Goals as goal

pub returns-in_err-session : goal.returns-in_err-session
returns-in_err-session g c =
    let p = err_from_is_err_and c.from_residual.result c.from_residual.ensures.1 in
    rw (p.1, p.2) (wants (edited (opened_of c.args.design) (steps_of c.args.commands.now (seconds_left c.args.seconds.now.items)) c.args.output.now)
    (seen g.D.Desk c.args.desk.now))
