use Rattle.level_view.proofs.RootItems.{display_joins, all_roots}
use Rattle.level_view.proofs.laws.display_is_of_trees.Goals as goal

pub returns-clause-trees : goal.returns-clause-trees
returns-clause-trees c = λ dim mask es. display_joins dim mask es

pub returns-clause-roots : goal.returns-clause-roots
returns-clause-roots c = λ es. all_roots es
