use Rattle.std.proofs.lemmas.Grind.{common_steps}
use Rattle.std.proofs.Common.{ap, arith}
use Rattle.undo_log.proofs.EntriesBack.{entry_added}
use Rattle.undo_log.proofs.log.Log.commit.Goals as goal

-- the patches hold what stood there from the first, since no two of them share a byte
pub returns-clause-entries : goal.returns-clause-entries
returns-clause-entries c =
    entry_added c.args.self.now.entries c.self.inside.kept.items c.push.new.self.items c.args.buf.now.items c.deref_mut.result.now c.args.patches
    c.swap_all.new.patches _ c.in-Ok-push.ensures.items (ap (λ l. l.entries) c.self.view_is) c.swap_all.ensures.kept c.deref_mut.ensures.value
    (omega arith) c.requires.within c.requires.apart

pub returns-clause-body : goal.returns-clause-body
returns-clause-body c = grind (arith, common_steps)
