use Rattle.dgn_audit.proofs.FitQuestions.{dead_root, live_root}
use Rattle.dgn_audit.proofs.fitting.deleted.Goals as goal

pub returns-then-found : goal.returns-then-found
returns-then-found c = dead_root c.args.d.now c.args.root c.in_ok-found.found c.in_ok-found.ensures.found c.if-found.true

pub returns-else-found : goal.returns-else-found
returns-else-found c = live_root c.args.d.now c.args.root c.in_ok-found.found c.in_ok-found.ensures.found c.if-found.false
