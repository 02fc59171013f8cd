use Rattle.std.proofs.Common.{sym, ◌∙◌}
use Rattle.dgn_audit.proofs.FitQuestions.{asked_long, locked_is}
use Rattle.dgn_audit.proofs.fitting.locked.Goals as goal

pub says_locked-requires : goal.says_locked-requires
says_locked-requires c = asked_long c.args.d.now c.args.m c.in_ok-found.found c.in_ok-found.ensures.found c.is_whole.ensures c.requires.read

pub returns-then-says_locked : goal.returns-then-says_locked
returns-then-says_locked c =
    locked_is c.args.d.now c.args.m c.in_ok-found.found c.in_ok-found.ensures.found c.is_whole.ensures c.requires.read _
    (sym c.if-says_locked.true ∙ c.says_locked.ensures)

pub returns-else-says_locked : goal.returns-else-says_locked
returns-else-says_locked c =
    locked_is c.args.d.now c.args.m c.in_ok-found.found c.in_ok-found.ensures.found c.is_whole.ensures c.requires.read _
    (sym c.if-says_locked.false ∙ c.says_locked.ensures)
