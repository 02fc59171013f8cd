use Rattle.std.proofs.Common.{arith}
use Rattle.nest_tree.specs.Depths.{IsWordTotal}
use Rattle.nest_tree.specs.Sources.{no_row}
use Rattle.nest_tree.proofs.RowPlaces.{all_more, summed_first, summed_more, summed_all}
use Rattle.nest_tree.proofs.sums.set_sums.Goals as goal

pub loop-i-init : goal.loop-i-init
loop-i-init c = (
  summed_first c.args.rows.now c.clear.new.self.items c.push_reserved.new.self.items c.clear.ensures.items c.push_reserved.ensures.items,
  omega (arith, c.push_reserved.ensures.capacity, c.clear.ensures.capacity),
  tt,
)

pub loop-i-preserved : goal.loop-i-preserved
loop-i-preserved c =
    let more = summed_more c.args.rows.now c.loop-i.sums.items c.loop-i.sum c.loop-i.i c.size-sum.result no_row c.loop-i.invariant.0 c.loop-i-test.true
    c.size-sum.ensures.size c.size-sum.ensures.small in
    rw c.push_reserved-in-loop-i.ensures.items (
      more,
      omega (arith, c.loop-i.invariant.1, c.push_reserved-in-loop-i.ensures.capacity),
      all_more IsWordTotal c.args.rows.now c.loop-i.i no_row c.loop-i-test.true c.loop-i.invariant.2 c.size-sum.ensures.word,
    )

pub returns-clause-sums : goal.returns-clause-sums
returns-clause-sums c = summed_all c.args.rows.now c.loop-i.sums.items c.loop-i.sum c.loop-i.i c.loop-i.invariant.0 (omega arith)
