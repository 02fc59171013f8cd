use Rattle.std.proofs.Common.{◌++◌}
use Rattle.std.specs.Prelude.{decimal}
use Rattle.patch_bytes.proofs.Fronts.{next, stopped, as_text}
use Rattle.dgn_listing.specs.Lines.{line_feed}
use Rattle.dgn_listing.proofs.counts.put_count.Goals as goal

pub returns-in_err-put_field : goal.returns-in_err-put_field
returns-in_err-put_field c =
    as_text (next c.in_ok-put.ensures (stopped (decimal c.args.times ++ line_feed) c.in_err-put_field.ensures
    c.from_residual-in_err-put_field.ensures.0)) (cc)

pub returns-in_err-put_number : goal.returns-in_err-put_number
returns-in_err-put_number c =
    as_text (next c.in_ok-put.ensures (next c.in_ok-put_field.ensures (stopped line_feed c.in_err-put_number.ensures
    c.from_residual-in_err-put_number.ensures.0))) (cc)

pub returns : goal.returns
returns c =
    as_text (next c.in_ok-put.ensures (next c.in_ok-put_field.ensures (next c.in_ok-put_number.ensures c.put-2.ensures))) (cc)
