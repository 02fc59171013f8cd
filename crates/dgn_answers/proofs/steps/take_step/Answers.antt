use Rattle.std.proofs.Common.{rules}
use Rattle.dgn_answers.proofs.steps.take_step.Goals as goal

pub returns-in-Import-clause-answered : goal.returns-in-Import-clause-answered
returns-in-Import-clause-answered c =
    let done = c.answer_gathered.ensures _ c.gather-gathered.ensures.gathered in
    search rules
