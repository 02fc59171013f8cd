use Rattle.std.proofs.Common.{sym}
use Rattle.dgnedit_lib.proofs.MissingFiles.{answer_tells}
use Rattle.dgnedit_lib.proofs.missing.missing_in_four.Goals as goal

pub returns-in-Some : goal.returns-in-Some
returns-in-Some c = λ command output.
    answer_tells c.missing_behind.result (λ v. v.items) c.args.desk.now.content.files command c.args.input.now c.args.second.now output _
    (sym c.in-Some.ensures) c.missing_behind.ensures.absent c.missing_behind.ensures.missing
