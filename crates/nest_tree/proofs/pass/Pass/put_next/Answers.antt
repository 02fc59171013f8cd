use Rattle.std.proofs.Common.{◌∙◌, ap, arith, Bool}
use Rattle.std.specs.Prelude.{Some, option_map}
use Rattle.dgn_drawing.specs.declared.row.Row.{Row}
use Rattle.nest_tree.specs.Pass.{all_rows}
use Rattle.nest_tree.specs.Sources.{rows_of}
use Rattle.nest_tree.proofs.ListStacks.{going_ends}
use Rattle.nest_tree.proofs.OpenLists.{between, shaped}
use Rattle.nest_tree.proofs.RowsRead.{inside_rows, row_at}
use Rattle.nest_tree.proofs.pass.Pass.put_next.Goals as goal

pub cbit-cbit-requires-clause-known : goal.cbit-cbit-requires-clause-known
cbit-cbit-requires-clause-known c =
    let p = c.args.self.now in
    let pass = c.requires.reading.pass in
    let here = c.requires.here in
    inside_rows (all_rows p) (rows_of p.source) p.first p.at c.args.around.end pass.rows pass.from here.inside
    (going_ends (all_rows p) p.at c.args.around here.going)

pub shape_at-shape-requires-clause-between : goal.shape_at-shape-requires-clause-between
shape_at-shape-requires-clause-between c =
    let p = c.args.self.now in
    let pass = c.requires.reading.pass in
    let here = c.requires.here in
    between (all_rows p) (rows_of p.source) p.first pass.rows p.at c.args.around here.going here.inside pass.bounded pass.from

pub place_next-requires-clause-shape : goal.place_next-requires-clause-shape
place_next-requires-clause-shape c =
    let p = c.args.self.now in
    let pass = c.requires.reading.pass in
    let here = c.requires.here in
    shaped (all_rows p) (rows_of p.source) p.first pass.rows p.at c.args.around here.going here.inside pass.bounded pass.from
    c.shape_at-shape.result c.shape_at-shape.ensures.shape

pub place_next-requires-clause-row : goal.place_next-requires-clause-row
place_next-requires-clause-row c =
    let p = c.args.self.now in
    let pass = c.requires.reading.pass in
    let here = c.requires.here in
    let bound = going_ends (all_rows p) p.at c.args.around here.going in
    let inside = here.inside in
    ap (λ (b : Bool). Some b) c.cbit-cbit.ensures
    ∙ ap (option_map (λ (r : Row). r.cbit)) (row_at (all_rows p) (rows_of p.source) p.first p.at pass.rows pass.from (omega arith))

pub list_behind-self-requires-clause-shape : goal.list_behind-self-requires-clause-shape
list_behind-self-requires-clause-shape c =
    let p = c.args.self.now in
    let pass = c.requires.reading.pass in
    let here = c.requires.here in
    shaped (all_rows p) (rows_of p.source) p.first pass.rows p.at c.args.around here.going here.inside pass.bounded pass.from
    c.shape_at-shape.result c.shape_at-shape.ensures.shape
