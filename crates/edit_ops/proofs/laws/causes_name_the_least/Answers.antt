use Rattle.edit_ops.proofs.LeastCause.{first_cause_is_least}
use Rattle.edit_ops.proofs.NumbersRise.{live_numbers_rise, path_numbers_rise}
use Rattle.edit_ops.proofs.laws.causes_name_the_least.Goals as goal

pub returns-clause-live : goal.returns-clause-live
returns-clause-live c = live_numbers_rise

pub returns-clause-path : goal.returns-clause-path
returns-clause-path c = path_numbers_rise

pub returns-clause-first : goal.returns-clause-first
returns-clause-first c = first_cause_is_least
