use Rattle.std.proofs.Common.{ℕ, sym, arith}
use Rattle.std.proofs.lemmas.Option.{get_or_from_slice_get}
use Rattle.patch_bytes.proofs.Loops.{among, one_more, all_written}
use Rattle.dgn_listing.proofs.counts.put_counts.Goals as goal

pub returns-in_err-put_count : goal.returns-in_err-put_count
returns-in_err-put_count c =
    let entry : ℕ × ℕ = (c.in-Some.number.now, c.in-Some.times.now) in
    among entry c.loop-i.invariant (omega arith) (sym (get_or_from_slice_get c.args.counts.now.entries c.loop-i.i entry entry (sym c.in-Some.ensures.entry)))
    c.in_err-put_count.ensures c.from_residual.ensures.0

pub loop-i-preserved : goal.loop-i-preserved
loop-i-preserved c =
    let entry : ℕ × ℕ = (c.in-Some.number.now, c.in-Some.times.now) in
    one_more entry c.loop-i.invariant (omega arith) (sym (get_or_from_slice_get c.args.counts.now.entries c.loop-i.i entry entry (sym c.in-Some.ensures.entry)))
    c.in_ok-put_count.ensures

pub returns : goal.returns
returns c = all_written c.loop-i.invariant (omega arith)
