use Rattle.std.proofs.Common.{◌-◌, ◌++◌}
use Rattle.dgn_drawing.specs.Spelling.{spelling}
use Rattle.dgn_generator.specs.Generator.{trees_within}
use Rattle.dgn_generator.proofs.DrawingGrows.{IsGrowing}
use Rattle.dgn_generator.proofs.push_trees.Given as goal

-- the trees so far and those that are left are all
abbrev pub invariant-trees : goal.invariant-trees
invariant-trees l = IsGrowing l.count l.before l.state l.bytes.items (l.fn.bytes.items ++ spelling (trees_within l.count l.count 0 l.fn.seed))

abbrev pub decreases-trees : goal.decreases-trees
decreases-trees l = l.count - l.before
