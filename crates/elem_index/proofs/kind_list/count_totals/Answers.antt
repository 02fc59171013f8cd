use Rattle.std.proofs.Common.{true, false, sym, ◌∙◌, arith}
use Rattle.elem_index.proofs.KindLists.{count-first, count-next}
use Rattle.elem_index.proofs.kind_list.count_totals.Goals as goal
use Rattle.elem_index.proofs.kind_list.count_totals.Goals.{then-is_counted, else-is_counted}

pub overflow_add-count : goal.overflow_add-count
overflow_add-count c = omega (arith, count-first c.args.bytes.now c.loop-byte.byte-index, c.loop-byte.invariant, c.loop-byte-test.true)

pub loop-byte-preserved : goal.loop-byte-preserved
loop-byte-preserved c = elim c.if-is_counted.branch [
  | then-is_counted w ↦
      omega (
        arith,
        count-next c.args.bytes.now c.loop-byte.byte-index true c.loop-byte-test.true (sym c.is_counted.ensures ∙ w.if-is_counted.true),
        c.loop-byte.invariant,
        w.count-is,
      )
  | else-is_counted w ↦
      omega (
        arith,
        count-next c.args.bytes.now c.loop-byte.byte-index false c.loop-byte-test.true (sym c.is_counted.ensures ∙ w.if-is_counted.false),
        c.loop-byte.invariant,
        w.count-is,
      )
]
