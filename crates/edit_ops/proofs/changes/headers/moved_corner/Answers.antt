use Rattle.std.proofs.Common.{◌+◌, SFits, w32, to_z-of_z}
use Rattle.dgn_words.specs.Numbers.{range_long_at}
use Rattle.edit_ops.proofs.WiderRanges.{stays_on, corner_two, corner_three}
use Rattle.edit_ops.proofs.changes.headers.moved_corner.Goals as goal

pub moved_number-y-requires-clause-plane : goal.moved_number-y-requires-clause-plane
moved_number-y-requires-clause-plane c =
    (stays_on c.args.d.now.dim c.args.by.now.by _ _ _ (rw c.dim-dim.ensures.value at c.dim-dim.ensures.dimension) c.requires.plane).second

pub moved_number-requires-clause-plane : goal.moved_number-requires-clause-plane
moved_number-requires-clause-plane c =
    (stays_on c.args.d.now.dim c.args.by.now.by _ _ _ (rw c.dim-dim.ensures.value at c.dim-dim.ensures.dimension) c.requires.plane).third
    (rw c.dim-dim.ensures.value at c.if-dim-eq3.true)

pub returns-then-dim-eq3 : goal.returns-then-dim-eq3
returns-then-dim-eq3 c =
    let fits_x : SFits w32 c.moved_number-x.result = record { sfits = c.moved_number-x.type_inv } in
    let fits_y : SFits w32 c.moved_number-y.result = record { sfits = c.moved_number-y.type_inv } in
    let fits_z : SFits w32 c.moved_number.result = record { sfits = c.moved_number.type_inv } in
    rw (to_z-of_z fits_x, to_z-of_z fits_y, to_z-of_z fits_z)
    (corner_three c.args.d.now.dim c.args.by.now.by (range_long_at c.args.b.now c.args.at) (range_long_at c.args.b.now (c.args.at + 4))
    (range_long_at c.args.b.now (c.args.at + 8)) _ _ _
    (rw c.dim-dim.ensures.value at c.if-dim-eq3.true) c.moved_number-x.ensures c.moved_number-y.ensures c.moved_number.ensures)

pub returns-else-dim-eq3 : goal.returns-else-dim-eq3
returns-else-dim-eq3 c =
    let fits_x : SFits w32 c.moved_number-x.result = record { sfits = c.moved_number-x.type_inv } in
    let fits_y : SFits w32 c.moved_number-y.result = record { sfits = c.moved_number-y.type_inv } in
    let fits_z : SFits w32 c.range_long.result = record { sfits = c.range_long.type_inv } in
    rw (to_z-of_z fits_x, to_z-of_z fits_y, to_z-of_z fits_z)
    (corner_two c.args.d.now.dim c.args.by.now.by (range_long_at c.args.b.now c.args.at) (range_long_at c.args.b.now (c.args.at + 4))
    (range_long_at c.args.b.now (c.args.at + 8)) _ _ _
    (rw c.dim-dim.ensures.value at c.dim-dim.ensures.dimension) (rw c.dim-dim.ensures.value at c.if-dim-eq3.false)
    c.moved_number-x.ensures c.moved_number-y.ensures c.range_long.ensures)
