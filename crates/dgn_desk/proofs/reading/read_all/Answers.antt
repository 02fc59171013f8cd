use Rattle.dgn_desk.proofs.Gathering.{left_alone, opened_alone}
use Rattle.dgn_desk.proofs.reading.read_all.Goals as goal

pub returns-in_err-begin_read-clause-changes : goal.returns-in_err-begin_read-clause-changes
returns-in_err-begin_read-clause-changes g c = left_alone _ _ c.in_err-begin_read.ensures.changes

pub returns-in_err-piece-clause-changes : goal.returns-in_err-piece-clause-changes
returns-in_err-piece-clause-changes g c = opened_alone c.args.name.now _ _ c.in_ok-begin_read.ensures.changes
