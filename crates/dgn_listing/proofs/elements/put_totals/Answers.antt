use Rattle.elem_index.specs.Design.{elements}
use Rattle.patch_bytes.proofs.Fronts.{next, stopped, as_text}
use Rattle.dgn_listing.specs.ElementTexts.{types_text}
use Rattle.dgn_listing.proofs.elements.put_totals.Goals as goal

pub returns-in_err-put_counts : goal.returns-in_err-put_counts
returns-in_err-put_counts c =
    as_text (stopped (types_text (elements c.args.d.now)) c.in_err-put_counts.ensures c.from_residual-in_err-put_counts.ensures.0)
    (cc c.in_ok-totals.ensures.levels)

pub returns : goal.returns
returns c = as_text (next c.in_ok-put_counts.ensures c.put_counts-2.ensures) (cc (c.in_ok-totals.ensures.levels, c.in_ok-totals.ensures.types))
