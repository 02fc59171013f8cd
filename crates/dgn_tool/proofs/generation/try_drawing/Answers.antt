use Rattle.std.proofs.Common.{◌∙◌}
use Rattle.std.proofs.lemmas.Result.{err_from_is_err_and}
use Rattle.dgn_desk.specs.Seen.{seen}
use Rattle.dgn_session.specs.State.{state_of}
use Rattle.dgn_tool.specs.Generation.{generated_from}
use Rattle.dgn_tool.proofs.TextsThenFiles.{begun_with}
use Rattle.dgn_import.proofs.SpelledBodies.{spelled_with}
use Rattle.dgn_tool.proofs.RunParts.{wants, named_so}
use Rattle.dgn_tool.proofs.GeneratedSizes.{tried}
use Rattle.dgn_tool.proofs.generation.try_drawing.Goals as goal

pub returns-in_err-text : goal.returns-in_err-text
returns-in_err-text g c =
    let p = err_from_is_err_and c.from_residual.result c.from_residual.ensures.1 in
    rw (p.1, p.2) (wants (generated_from (state_of c.args.session.now) c.args.session.now.tail c.args.output.now) (seen g.D.Desk c.args.desk.now))

pub returns : goal.returns
returns g c =
    let v = c.args.session.now in
    let w = c.summarize.new.session in
    let did = c.in_ok-text.ensures in
    let d = c.design-design in
    let begun = begun_with v.dim v.body c.design.result.now c.len-before.result c.design.ensures.whole c.design.ensures.dim c.design.ensures.body
    c.len-before.ensures in
    named_so (generated_from (state_of v) v.tail c.args.output.now) _ c.file_filled.result _ _
    (tried (state_of v) (state_of w) v.tail c.args.output.now c.deref-2.result.now c.deref.result.now c.deref-3.result.now c.len-before.result did.state
    (c.deref-2.ensures.value ∙ d.ensures.tail ∙ did.tail) begun
    (c.deref.ensures.value ∙ spelled_with w.dim w.body d.result.now d.ensures.whole d.ensures.dim d.ensures.body)
    (c.deref-3.ensures.value ∙ did.text))
    c.file_filled.ensures
