use Rattle.std.proofs.Common.{◌++◌}
use Rattle.std.proofs.lemmas.Result.{err_from_is_err_and}
use Rattle.dgn_desk.specs.Seen.{seen}
use Rattle.dgn_tool.proofs.FilesThenTexts.{file_then_ends, file_stops}
use Rattle.dgn_tool.proofs.output.file_and_say.Goals as goal

pub returns-in_err-write_file : goal.returns-in_err-write_file
returns-in_err-write_file g c =
    let p = err_from_is_err_and c.from_residual.result c.from_residual.ensures.1 in
    rw (p.1, p.2) (file_stops c.args.ending c.args.text.now c.args.name.now (c.args.body.now ++ (c.args.tail.now ++ c.args.filling.now))
    c.in_err-write_file.field-0.0 (seen g.D.Desk c.args.desk.now) (seen g.D.Desk c.write_file.new.desk) c.in_err-write_file.ensures)

pub returns : goal.returns
returns g c =
    file_then_ends c.args.ending c.args.text.now c.args.name.now (c.args.body.now ++ (c.args.tail.now ++ c.args.filling.now)) c.end_with.result
    (seen g.D.Desk c.args.desk.now) (seen g.D.Desk c.write_file.new.desk) (seen g.D.Desk c.end_with.new.desk) c.in_ok-write_file.ensures c.end_with.ensures
