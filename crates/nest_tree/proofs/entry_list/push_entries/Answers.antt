use Rattle.std.proofs.Common.{◌≡◌, ◌-◌, ◌+◌, ◌++◌, suc, length, replicate, ap, arith}
use Rattle.std.proofs.lemmas.List.{length_push}
use Rattle.nest_tree.specs.NestEntries.{NestEntry}
use Rattle.nest_tree.proofs.NumbersPushed.{put_same}
use Rattle.nest_tree.proofs.entry_list.push_entries.Goals as goal

pub loop-preserved : goal.loop-preserved
loop-preserved c =
    let inside = c.loop-test.true in
    let left : c.args.count - c.loop.counter ≡ suc (c.args.count - (c.loop.counter + 1)) = omega arith in (
      put_same c.loop.list.items c.push_reserved.new.self.items (c.args.list.now.items ++ replicate c.args.count c.args.entry) c.args.entry
          (c.args.count - c.loop.counter) (c.args.count - (c.loop.counter + 1)) left c.loop.invariant.0 c.push_reserved.ensures.items,
      omega (
        arith,
        c.loop.invariant.1,
        c.push_reserved.ensures.capacity,
        ap (length {A = NestEntry}) c.push_reserved.ensures.items,
        length_push c.loop.list.items c.args.entry,
        c.loop.list.ok.0,
        c.push_reserved.new.self.ok.0,
      ),
      omega (arith, c.loop.invariant.2, c.push_reserved.ensures.capacity),
    )
