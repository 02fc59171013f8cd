use Rattle.std.proofs.Common.{arith}
use Rattle.nest_tree.specs.Pass.{all_rows}
use Rattle.nest_tree.proofs.ListStacks.{end_fits, going_on, going_past}
use Rattle.nest_tree.proofs.pass.Pass.list_behind.Goals as goal

pub returns-then-shape-eq0-clause-going : goal.returns-then-shape-eq0-clause-going
returns-then-shape-eq0-clause-going c =
    let p = c.args.self.now in
    let here = c.requires.here in
    going_past (all_rows p) p.at c.args.around here.going here.inside c.args.shape c.requires.shape c.if-shape-eq0.true

pub overflow_add-result-2 : goal.overflow_add-result-2
overflow_add-result-2 c =
    let p = c.args.self.now in
    let here = c.requires.here in
    omega (arith, end_fits (all_rows p) p.at c.args.around here.going here.inside c.args.shape c.requires.shape c.requires.pass.bounded)

pub overflow_cast-result : goal.overflow_cast-result
overflow_cast-result c =
    let p = c.args.self.now in
    let here = c.requires.here in
    omega (arith, end_fits (all_rows p) p.at c.args.around here.going here.inside c.args.shape c.requires.shape c.requires.pass.bounded)

pub returns-clause-going : goal.returns-clause-going
returns-clause-going c =
    let p = c.args.self.now in
    let here = c.requires.here in
    going_on (all_rows p) p.at c.args.around here.going here.inside c.args.shape c.requires.shape
