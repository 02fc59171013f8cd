use Rattle.std.proofs.Common.{◌∙◌, sym}
use Rattle.elem_index.proofs.OpeningAnswers.{opening-other}
use Rattle.elem_index.proofs.design.count_elements.Goals as goal

pub returns-then-not-begins_with_tcb-clause-first_fault : goal.returns-then-not-begins_with_tcb-clause-first_fault
returns-then-not-begins_with_tcb-clause-first_fault c = opening-other c.args.bytes.now (sym c.begins_with_tcb.ensures ∙ c.if-not-begins_with_tcb.true)
