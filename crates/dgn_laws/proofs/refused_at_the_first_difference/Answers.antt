use Rattle.dgn_laws.proofs.PatchesApplied.{refuses_where_one_differs, refuses_none_else}
use Rattle.dgn_laws.proofs.refused_at_the_first_difference.Goals as goal

pub returns-clause-refused : goal.returns-clause-refused
returns-clause-refused c = refuses_where_one_differs

pub returns-clause-only : goal.returns-clause-only
returns-clause-only c = refuses_none_else
