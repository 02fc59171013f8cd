use Rattle.std.proofs.Common.{length, refl, ap, sym}
use Rattle.dgn_tool.specs.Ended.{filed_then_said}
use Rattle.dgn_tool.specs.Filling.{file_made}
use Rattle.dgn_tool.specs.declared.status.Status.TheVariants as statuses
use Rattle.dgn_tool.proofs.BlocksFilled.{filled_so}
use Rattle.dgn_tool.proofs.RunParts.{named_so}
use Rattle.dgn_tool.proofs.output.file_filled.Goals as goal

pub returns : goal.returns
returns g c =
    named_so (filed_then_said statuses.Done c.args.text.now c.args.output.now (file_made c.args.before c.args.tail.now c.args.body.now))
    _ c.file_and_say.result _ _
    (ap (filed_then_said statuses.Done c.args.text.now c.args.output.now)
    (sym (filled_so c.args.before c.filling_len-zero_count.result (length c.args.body.now)
    c.args.body.now c.args.tail.now c.args.tail.now _ refl refl c.filling_len-zero_count.ensures.bounded c.filling_len-zero_count.ensures.exact refl)))
    c.file_and_say.ensures
