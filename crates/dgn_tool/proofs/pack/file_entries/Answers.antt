use Rattle.std.proofs.Common.{◌∙◌}
use Rattle.std.proofs.lemmas.Result.{err_from_is_err_and}
use Rattle.dgn_desk.specs.Seen.{seen}
use Rattle.patch_file.specs.PatchView.{all_packed}
use Rattle.dgn_tool.specs.Ends.{status_said}
use Rattle.dgn_tool.specs.Packing.{filed_patch}
use Rattle.dgn_tool.proofs.RunParts.{wants, named_so}
use Rattle.dgn_tool.proofs.PackedEntries.{filed_so}
use Rattle.dgn_tool.proofs.pack.file_entries.Goals as goal

pub returns-in_err-file : goal.returns-in_err-file
returns-in_err-file g c =
    let p = err_from_is_err_and c.from_residual.result c.from_residual.ensures.1 in
    rw (p.1, p.2) (wants (filed_patch (all_packed c.args.entries.now) c.args.refused c.args.patch.now) (seen g.D.Desk c.args.desk.now))

pub returns-in_err-text : goal.returns-in_err-text
returns-in_err-text g c =
    let p = err_from_is_err_and c.from_residual-in_err-text.result c.from_residual-in_err-text.ensures.1 in
    rw (p.1, p.2) (wants (filed_patch (all_packed c.args.entries.now) c.args.refused c.args.patch.now) (seen g.D.Desk c.args.desk.now))

pub returns : goal.returns
returns g c =
    named_so (filed_patch (all_packed c.args.entries.now) c.args.refused c.args.patch.now) _ c.file_and_say.result _ _
    (filed_so c.args.entries.now c.args.refused c.args.patch.now c.deref.result.now c.deref-2.result.now (status_said c.of_refused.result)
    (c.deref.ensures.value ∙ c.in_ok-file.ensures) (c.deref-2.ensures.value ∙ c.in_ok-text.ensures) c.of_refused.ensures)
    c.file_and_say.ensures
