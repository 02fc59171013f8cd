use Rattle.std.proofs.Common.{◌≡◌, ℕ, ◌-◌, ◌+◌, ◌++◌, suc, length, ap, arith}
use Rattle.std.proofs.lemmas.List.{length_push}
use Rattle.std.specs.List.{range_with_len}
use Rattle.nest_tree.proofs.NumbersPushed.{put_number}
use Rattle.nest_tree.proofs.leaves.push_numbers.Goals as goal

pub loop-number-preserved : goal.loop-number-preserved
loop-number-preserved c =
    let inside = c.loop-number-test.true in
    let left : c.args.first + c.args.count - c.loop-number.number ≡ suc (c.args.first + c.args.count - (c.loop-number.number + 1)) = omega arith in (
      put_number c.loop-number.list.items c.push_reserved.new.self.items (c.args.list.now.items ++ range_with_len c.args.first c.args.count)
          c.loop-number.number (c.args.first + c.args.count - c.loop-number.number)
          (c.args.first + c.args.count - (c.loop-number.number + 1)) left c.loop-number.invariant.0 c.push_reserved.ensures.items,
      omega (
        arith,
        c.loop-number.invariant.1,
        c.push_reserved.ensures.capacity,
        ap (length {A = ℕ}) c.push_reserved.ensures.items,
        length_push c.loop-number.list.items c.loop-number.number,
        c.loop-number.list.ok.0,
        c.push_reserved.new.self.ok.0,
      ),
      omega (arith, c.loop-number.invariant.2, c.push_reserved.ensures.capacity),
    )
