use Rattle.std.proofs.Common.{ap, ◌∙◌, Option}
use Rattle.std.specs.Option.{option_or}
use Rattle.edit_ops.specs.declared.causes.cause.Cause.{Cause}
use Rattle.elem_index.specs.Design.{elements}
use Rattle.edit_ops.specs.Written.{lives_of}
use Rattle.edit_ops.proofs.RootRows.{part_cause_is}
use Rattle.edit_ops.proofs.causes.part.part_cause.Goals as goal

pub returns : goal.returns
returns c =
    let is = part_cause_is c.args.d.now.dim (elements c.args.d.now) c.args.n (lives_of (elements c.args.d.now) c.args.above.now)
    c.broken.result c.first_cause.result c.cause_against.result
    c.requires.above c.broken.ensures c.first_cause.ensures c.cause_against.ensures in
    c.or-2.ensures ∙ ap (λ (o : Option Cause). option_or o c.cause_against.result) c.or.ensures ∙ is
