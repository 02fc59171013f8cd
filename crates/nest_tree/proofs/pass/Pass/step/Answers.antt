use Rattle.std.proofs.Common.{arith}
use Rattle.nest_tree.specs.Pass.{all_rows}
use Rattle.nest_tree.specs.Sources.{rows_of}
use Rattle.nest_tree.proofs.ListStacks.{going_ends}
use Rattle.nest_tree.proofs.RowsRead.{length-read}
use Rattle.nest_tree.proofs.pass.Pass.step.Goals as goal

pub leaf_run-leaves-requires-clause-known : goal.leaf_run-leaves-requires-clause-known
leaf_run-leaves-requires-clause-known c =
    let p = c.args.self.now in
    let pass = c.requires.reading.pass in
    omega (
      arith,
      length-read (all_rows p) (rows_of p.source) p.first pass.rows pass.within,
      going_ends (all_rows p) p.at c.innermost-around.result c.innermost-around.ensures.going,
    )
