use Rattle.std.proofs.Common.{sym, ap, ◌∙◌}
use Rattle.std.proofs.lemmas.Result.{err_from_is_err_and}
use Rattle.dgn_desk.specs.Seen.{seen}
use Rattle.elem_index.specs.Answers.{opened_of}
use Rattle.patch_file.specs.PatchView.{all_packed}
use Rattle.dgn_answers.specs.Steps.{steps_of}
use Rattle.dgn_import.specs.Seconds.{seconds_left}
use Rattle.dgn_answers.specs.Commands.{first_state}
use Rattle.dgn_tool.specs.Packing.{packed}
use Rattle.dgn_tool.proofs.RunParts.{wants, named_so}
use Rattle.dgn_tool.proofs.PackedEntries.{packed_long, beyond_cap}
use Rattle.dgn_tool.proofs.pack.pack_commands.Goals as goal

pub returns-in_err-did : goal.returns-in_err-did
returns-in_err-did g c =
    let p = err_from_is_err_and c.from_residual.result c.from_residual.ensures.1 in
    rw (p.1, p.2) (wants (packed (opened_of c.args.design) (steps_of c.args.commands.now (seconds_left c.args.seconds.now.items)) c.args.patch.now)
    (seen g.D.Desk c.args.desk.now))

pub returns-then-patch_len : goal.returns-then-patch_len
returns-then-patch_len g c =
    let entries = ap all_packed c.deref.ensures.value ∙ c.in_ok-did.ensures.entries in
    named_so (packed (opened_of c.args.design) (steps_of c.args.commands.now (seconds_left c.args.seconds.now.items)) c.args.patch.now) _ c.end_with.result _ _
    (sym (packed_long (steps_of c.args.commands.now (seconds_left c.args.seconds.now.items)) (first_state (opened_of c.args.design))
    (all_packed c.deref.result.now)
    c.args.patch.now entries (beyond_cap c.patch_len.result _ c.patch_len.ensures c.if-patch_len.true)))
    c.end_with.ensures
