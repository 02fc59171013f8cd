use Rattle.std.proofs.Common.{◌∙◌, sym, arith, get_or}
use Rattle.nest_tree.specs.Shapes.{is_part_in}
use Rattle.nest_tree.specs.Sources.{no_row, rows_of}
use Rattle.nest_tree.proofs.RowFronts.{front_more, front_stops, front_none}
use Rattle.nest_tree.proofs.shape.parts.Goals as goal
use Rattle.nest_tree.proofs.shape.parts.Goals.{then-parts-test+else-is_part, else-parts-test}

pub parts-preserved : goal.parts-preserved
parts-preserved c =
    let from = c.parts.invariant.0 in
    let test = c.parts-test.true in
    let known = c.requires.known in
    let part = sym (c.is_part.ensures (get_or (rows_of c.args.source.now) c.parts.i no_row) (sym c.kind.ensures.kind) (sym c.cbit.ensures))
    ∙ c.if-is_part.true in (
      omega arith,
      omega arith,
      omega (
        arith,
        c.parts.invariant.2,
        front_more (is_part_in c.args.inside) (rows_of c.args.source.now) c.parts.i c.args.end test (omega arith) part,
      ),
    )

pub returns : goal.returns
returns c =
    let from = c.parts.invariant.0 in
    let inside = c.parts.invariant.1 in
    let known = c.requires.known in
    elim c.parts-test.branch [
      | then-parts-test+else-is_part w ↦
          let part = sym (w.is_part.ensures (get_or (rows_of c.args.source.now) c.parts.i no_row) (sym w.kind.ensures.kind) (sym
          w.cbit.ensures)) ∙ w.if-is_part.false in
          let test = w.parts-test.true in
          omega (arith, c.parts.invariant.2, front_stops (is_part_in c.args.inside) (rows_of c.args.source.now) c.parts.i c.args.end test (omega arith) part)
      | else-parts-test w ↦
          let test = w.parts-test.false in
          omega (arith, c.parts.invariant.2, front_none (is_part_in c.args.inside) (rows_of c.args.source.now) c.parts.i c.args.end (omega arith))
    ]
