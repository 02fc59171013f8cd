use Rattle.std.proofs.Common.{◌∙◌, sym, arith}
use Rattle.elem_index.specs.Design.{elements}
use Rattle.elem_index.proofs.Places.{length-elements, in_order, inside_body}
use Rattle.elem_index.proofs.KeptRows.{kept_place, bare_kept, uncounted, counted, counted_there}
use Rattle.elem_index.proofs.design.Design.row.Goals as goal

pub index-requires : goal.index-requires
index-requires c = omega (arith, length-elements c.args.self.now c.requires.whole, c.requires.known)

pub overflow_sub-row : goal.overflow_sub-row
overflow_sub-row c =
    let begins = kept_place c.args.self.now c.requires.whole c.args.n c.requires.known c.index.result.now c.index.ensures in
    in_order c.args.self.now c.requires.whole c.args.n c.requires.known c.index.result.now c.end_of.result begins c.end_of.ensures

pub overflow_cast-row-2 : goal.overflow_cast-row-2
overflow_cast-row-2 c =
    let begins = kept_place c.args.self.now c.requires.whole c.args.n c.requires.known c.index.result.now c.index.ensures in
    let inside = inside_body c.args.self.now c.requires.whole c.args.n c.requires.known c.index.result.now c.end_of.result begins c.end_of.ensures in
    omega (arith, c.requires.whole.is_open.few)

pub total-requires-clause-counted : goal.total-requires-clause-counted
total-requires-clause-counted c =
    counted_there (elements c.args.self.now) c.args.n _
    (bare_kept c.args.self.now c.requires.whole c.args.n c.requires.known c.kind_bytes.result.now c.kind_bytes.ensures c.index.result.now c.index.ensures
    c.end_of.result c.end_of.ensures)
    (sym c.is_counted.ensures ∙ c.if-is_counted.true)

pub returns-then-is_counted : goal.returns-then-is_counted
returns-then-is_counted c =
    counted c.args.self.now c.requires.whole c.args.n _
    (bare_kept c.args.self.now c.requires.whole c.args.n c.requires.known c.kind_bytes.result.now c.kind_bytes.ensures c.index.result.now c.index.ensures
    c.end_of.result c.end_of.ensures)
    c.total.result c.total.ensures

pub returns-else-is_counted : goal.returns-else-is_counted
returns-else-is_counted c =
    uncounted c.args.self.now c.requires.whole c.args.n _
    (bare_kept c.args.self.now c.requires.whole c.args.n c.requires.known c.kind_bytes.result.now c.kind_bytes.ensures c.index.result.now c.index.ensures
    c.end_of.result c.end_of.ensures)
    (sym c.is_counted.ensures ∙ c.if-is_counted.false)
