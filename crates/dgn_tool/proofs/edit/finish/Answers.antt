use Rattle.std.proofs.lemmas.Result.{err_from_is_err_and}
use Rattle.dgn_drawing.specs.Spelling.{spelling}
use Rattle.dgn_session.specs.State.{state_of}
use Rattle.dgn_tool.specs.Filling.{file_made}
use Rattle.dgn_answers.specs.Steps.{steps_of}
use Rattle.dgn_import.specs.Seconds.{seconds_left}
use Rattle.dgn_tool.proofs.TextsThenFiles.{begun_with, made_so, edited, edit_unfiled, edit_unsaid}
use Rattle.dgn_tool.proofs.edit.finish.Goals as goal

pub returns-in_err-refused : goal.returns-in_err-refused
returns-in_err-refused g c =
    let p = err_from_is_err_and c.from_residual.result c.from_residual.ensures.1 in
    rw (p.1, p.2) (edit_unsaid (state_of c.args.session.now) c.args.session.now.tail (steps_of c.args.commands.now (seconds_left c.args.seconds.now.items))
    c.args.output.now c.in_err-refused.field-0.0 c.in_err-refused.ensures.said)

pub returns-in_err-write_drawing : goal.returns-in_err-write_drawing
returns-in_err-write_drawing g c =
    let p = err_from_is_err_and c.from_residual-in_err-write_drawing.result c.from_residual-in_err-write_drawing.ensures.1 in
    let s = state_of c.args.session.now in
    let t = c.args.session.now.tail in
    let cs = steps_of c.args.commands.now (seconds_left c.args.seconds.now.items) in
    let ran = c.in_ok-refused.ensures in
    let begun = begun_with c.args.session.now.dim c.args.session.now.body c.design.result.now c.len-before.result c.design.ensures.whole
    c.design.ensures.dim c.design.ensures.body c.len-before.ensures in
    rw (p.1, p.2) (edit_unfiled s t cs c.args.output.now
    (file_made c.len-before.result c.run_all.new.session.tail (spelling (state_of c.run_all.new.session).top))
    (made_so s (state_of c.run_all.new.session) t c.run_all.new.session.tail cs c.len-before.result ran.state ran.tail begun)
    c.in_ok-refused.refused c.in_err-write_drawing.field-0.0 ran.said c.in_err-write_drawing.ensures)

pub returns : goal.returns
returns g c =
    let s = state_of c.args.session.now in
    let t = c.args.session.now.tail in
    let cs = steps_of c.args.commands.now (seconds_left c.args.seconds.now.items) in
    let ran = c.in_ok-refused.ensures in
    let begun = begun_with c.args.session.now.dim c.args.session.now.body c.design.result.now c.len-before.result c.design.ensures.whole
    c.design.ensures.dim c.design.ensures.body c.len-before.ensures in
    edited s t cs c.args.output.now (file_made c.len-before.result c.run_all.new.session.tail (spelling (state_of c.run_all.new.session).top))
    (made_so s (state_of c.run_all.new.session) t c.run_all.new.session.tail cs c.len-before.result ran.state ran.tail begun)
    c.in_ok-refused.refused c.of_refused.result ran.refused c.of_refused.ensures ran.said c.in_ok-write_drawing.ensures
