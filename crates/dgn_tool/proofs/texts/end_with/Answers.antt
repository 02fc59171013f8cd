use Rattle.std.proofs.lemmas.Result.{err_from_is_err_and}
use Rattle.dgn_desk.specs.Seen.{seen}
use Rattle.dgn_tool.proofs.RunParts.{line_ends, line_stops}
use Rattle.dgn_tool.proofs.texts.end_with.Goals as goal

pub returns-in_err-say_all : goal.returns-in_err-say_all
returns-in_err-say_all g c =
    let p = err_from_is_err_and c.from_residual.result c.from_residual.ensures.1 in
    rw (p.1, p.2) (line_stops c.args.ending c.args.line.now c.in_err-say_all.field-0.0 (seen g.D.Desk c.args.desk.now) (seen g.D.Desk c.say_all.new.desk)
    c.in_err-say_all.ensures)

pub returns : goal.returns
returns g c = line_ends c.args.ending c.args.line.now (seen g.D.Desk c.args.desk.now) (seen g.D.Desk c.say_all.new.desk) c.in_ok-say_all.ensures
