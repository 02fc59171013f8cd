use Rattle.std.proofs.lemmas.Result.{err_from_is_err_and}
use Rattle.dgn_desk.specs.Seen.{seen}
use Rattle.dgn_tool.specs.Ended.{ended}
use Rattle.dgn_tool.specs.Ends.{status_said}
use Rattle.dgn_listing.specs.NumberedLines.{numbered}
use Rattle.dgn_tool.proofs.RunParts.{wants}
use Rattle.dgn_tool.proofs.texts.end_numbered.Goals as goal

pub returns-in_err-line : goal.returns-in_err-line
returns-in_err-line g c =
    let p = err_from_is_err_and c.from_residual.result c.from_residual.ensures.1 in
    rw (p.1, p.2) (wants (ended (status_said c.args.ending) (numbered c.args.words.now c.args.number)) (seen g.D.Desk c.args.desk.now))
