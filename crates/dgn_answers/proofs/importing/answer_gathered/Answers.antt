use Rattle.std.proofs.Common.{sym, ◌∙◌}
use Rattle.dgn_import.proofs.SpelledBodies.{spelled_with}
use Rattle.dgn_answers.proofs.importing.answer_gathered.Goals as goal

pub append_gathered-requires-clause-body : goal.append_gathered-requires-clause-body
append_gathered-requires-clause-body c =
    let v = c.args.s.now in
    let d = c.design in
    sym d.ensures.body ∙ spelled_with v.dim v.body d.result.now d.ensures.whole d.ensures.dim d.ensures.body
