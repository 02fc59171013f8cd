use Rattle.std.proofs.Common.{length, ap, arith}
use Rattle.undo_log.specs.declared.entry.Entry.{Entry}
use Rattle.dgn_tool.proofs.PackedEntries.{taken_all}
use Rattle.dgn_tool.proofs.pack.take_all.Goals as goal

pub returns-clause-taken : goal.returns-clause-taken
returns-clause-taken c =
    taken_all c.args.session.now c.entries.session c.entries.taken.items c.reverse.new.self.items c.entries.invariant
    (omega (
      arith,
      c.entries-test.false,
      c.entries.invariant.long,
      ap (length {A = Entry}) c.entries-count.ensures,
      c.len.ensures,
      ap (length {A = Entry}) c.log.ensures.entries,
      c.entries.taken.ok.0,
    ))
    c.reverse.ensures.items
