use Rattle.std.proofs.Common.{rules}
use Rattle.dgn_layout.proofs.tables.cell_2d.Goals as goal

pub returns-clause-table : goal.returns-clause-table
returns-clause-table c = search rules

pub returns-clause-rows : goal.returns-clause-rows
returns-clause-rows c = search rules
