use Rattle.dgn_laws.proofs.ImportedTrees.{imports_nest_apart, runs_nest_apart, refused_change_nothing}
use Rattle.dgn_laws.proofs.imports_nest_apart.Goals as goal

pub returns-clause-accepted : goal.returns-clause-accepted
returns-clause-accepted c = imports_nest_apart

pub returns-clause-run : goal.returns-clause-run
returns-clause-run c = runs_nest_apart

pub returns-clause-refused : goal.returns-clause-refused
returns-clause-refused c = refused_change_nothing
