use Rattle.std.proofs.Common.{◌++◌}
use Rattle.dgn_drawing.specs.Spelling.{spelling}
use Rattle.dgn_generator.specs.Generator.{trees_within}
use Rattle.dgn_generator.proofs.DrawingGrows.{begins, grows_drawn, ends}
use Rattle.dgn_generator.proofs.push_trees.Goals as goal

pub trees-init : goal.trees-init
trees-init c = begins c.args.count c.args.seed c.args.bytes.now.items

pub trees-preserved : goal.trees-preserved
trees-preserved c =
    grows_drawn c.args.count c.trees.before c.trees.state c.drawn-first.result c.drawn-second.result c.trees.bytes.items
    (c.args.bytes.now.items ++ spelling (trees_within c.args.count c.args.count 0 c.args.seed))
    c.push_tree.new.bytes.items c.in_ok-before.field-0 c.trees-test.true c.drawn-first.ensures.next c.drawn-second.ensures.next
    c.in_ok-before.ensures.bytes c.in_ok-before.ensures.size c.in_ok-before.ensures.bounded c.in_ok-before.ensures.positive c.trees.invariant

pub returns : goal.returns
returns c =
    ends c.args.count c.trees.before c.trees.state c.trees.bytes.items
    (c.args.bytes.now.items ++ spelling (trees_within c.args.count c.args.count 0 c.args.seed)) c.trees.invariant c.trees-test.false
