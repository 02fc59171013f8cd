use Rattle.std.proofs.Common.{length, ap, arith}
use Rattle.std.proofs.lemmas.List.{length-map}
use Rattle.dgn_drawing.specs.declared.row.Row.{Row}
use Rattle.dgn_drawing.specs.Rows.{row_of}
use Rattle.elem_index.specs.Design.{elements}
use Rattle.elem_index.proofs.Places.{few_elements}
use Rattle.dgn_session.proofs.commits.follow.Goals as goal

pub nest_appended-requires-clause-rows_bounded : goal.nest_appended-requires-clause-rows_bounded
nest_appended-requires-clause-rows_bounded c =
    omega (
      arith,
      few_elements c.args.design.now c.requires.kept.whole,
      ap (length {A = Row}) c.requires.kept.nesting,
      length-map (elements c.args.design.now) row_of,
    )
