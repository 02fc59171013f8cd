use Rattle.std.proofs.Common.{arith}
use Rattle.edit_script.proofs.Commas.{too_many}
use Rattle.edit_script.proofs.points.point.Goals as goal

pub returns-in-Some-at_comma-clause-value : goal.returns-in-Some-at_comma-clause-value
returns-in-Some-at_comma-clause-value c = grind (arith, too_many)
