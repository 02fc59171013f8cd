use Rattle.std.proofs.Common.{◌≡◌, ◌++◌, ◌∷◌, []}
use Rattle.std.proofs.lemmas.Result.{err_from_is_err_and}
use Rattle.std.proofs.lemmas.List.{map_push}
use Rattle.patch_file.specs.PatchView.{packed_of, all_packed}
use Rattle.patch_file.specs.Reading.{entries_at}
use Rattle.patch_file.proofs.ReadLoops.{entries_go_on, entries_stop, entries_done}
use Rattle.patch_file.proofs.reading.entries_of.Goals as goal

pub returns-in_err-entry : goal.returns-in_err-entry
returns-in_err-entry c =
    let p = err_from_is_err_and c.from_residual.result c.from_residual.ensures.1 in
    rw (p.1, p.2) (entries_stop c.in_err-entry.field-0.0 (all_packed c.loop.entries.items) c.args.count c.loop.counter c.loop.rest.now
    (entries_at c.args.count c.args.bytes.now) c.loop-test.true c.in_err-entry.ensures c.loop.invariant)

pub loop-preserved : goal.loop-preserved
loop-preserved c =
    let n = c.in_ok-entry.entry in
    let e : all_packed c.push.new.self.items ≡ all_packed c.loop.entries.items ++ packed_of n ∷ [] =
    rw c.in_ok-push.ensures.items (map_push _ c.loop.entries.items n) in
    rw e (entries_go_on (all_packed c.loop.entries.items) c.args.count c.loop.counter c.loop.rest.now (packed_of n) c.in_ok-entry.after.now
    (entries_at c.args.count c.args.bytes.now) c.loop-test.true c.in_ok-entry.ensures c.loop.invariant)

pub returns : goal.returns
returns c = entries_done (all_packed c.loop.entries.items) c.args.count c.loop.counter c.loop.rest.now (entries_at c.args.count c.args.bytes.now)
    c.loop-test.false c.loop.invariant
