use Rattle.std.proofs.Common.{sym, ap, ◌∙◌}
use Rattle.std.proofs.lemmas.Result.{IfOk-weaker}
use Rattle.dgn_tool.specs.SecondFiles.{names_in}
use Rattle.dgnedit_lib.specs.Missing.{first_absent}
use Rattle.dgnedit_lib.proofs.MissingFiles.{import_tells}
use Rattle.dgnedit_lib.proofs.missing.missing_behind.Goals as goal

pub returns-in-Ok-clause-missing : goal.returns-in-Ok-clause-missing
returns-in-Ok-clause-missing c =
    let files = c.args.desk.now.content.files in
    IfOk-weaker c.missing_import.result _ _ (λ name is. import_tells files c.args.script.now c.in-Some.text.now c.in-Ok.commands.items name.items
    (sym c.in-Some.ensures) c.in-Ok.ensures.commands (is ∙ ap (λ cs. first_absent files (names_in cs)) c.deref.ensures.value))
    c.missing_import.ensures
