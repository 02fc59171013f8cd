use Rattle.std.proofs.lemmas.Result.{err_from_is_err_and}
use Rattle.dgn_desk.specs.Seen.{seen}
use Rattle.dgn_tool.specs.Inputs.{drawing_opened}
use Rattle.dgn_tool.specs.Readings.{at_once}
use Rattle.dgn_tool.proofs.ReadingsInTurn.{nothing_read, wants_more}
use Rattle.dgn_tool.proofs.files.end_bad_design.Goals as goal

pub returns-in_err-line : goal.returns-in_err-line
returns-in_err-line g c =
    let p = err_from_is_err_and c.from_residual.result c.from_residual.ensures.1 in
    rw (p.1, p.2) (λ found tells. wants_more (λ _. at_once (drawing_opened found)) _ _ (nothing_read (seen g.D.Desk c.args.desk.now)))
