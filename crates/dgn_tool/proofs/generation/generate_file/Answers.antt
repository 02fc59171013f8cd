use Rattle.std.proofs.lemmas.Result.{err_from_is_err_and}
use Rattle.dgn_desk.specs.Seen.{seen}
use Rattle.dgn_session.specs.State.{state_of}
use Rattle.dgn_tool.specs.Generation.{generation}
use Rattle.dgn_tool.proofs.RunParts.{wants, named_so}
use Rattle.dgn_tool.proofs.GeneratedSizes.{generates}
use Rattle.dgn_tool.proofs.generation.generate_file.Goals as goal

pub returns-in_err-session : goal.returns-in_err-session
returns-in_err-session g c =
    let p = err_from_is_err_and c.from_residual.result c.from_residual.ensures.1 in
    rw (p.1, p.2) (wants (generation c.args.seed c.args.count c.args.output.now) (seen g.D.Desk c.args.desk.now))

pub returns : goal.returns
returns g c =
    let v = c.in_ok-session.session in
    named_so (generation c.args.seed c.args.count c.args.output.now) _ c.try_drawing.result _ _
    (generates c.args.seed c.args.count (state_of v) v.tail c.args.output.now c.in_ok-session.ensures.state c.in_ok-session.ensures.tail)
    c.try_drawing.ensures
