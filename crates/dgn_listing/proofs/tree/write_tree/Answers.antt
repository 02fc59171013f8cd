use Rattle.std.proofs.Common.{◌-◌, codes, sym}
use Rattle.elem_index.specs.Design.{elements}
use Rattle.dgn_listing.specs.Lines.{ending_text}
use Rattle.patch_bytes.proofs.Fronts.{next, stopped, as_text}
use Rattle.dgn_listing.proofs.LineFields.{spanned}
use Rattle.dgn_listing.proofs.tree.write_tree.Goals as goal

pub put_elements-requires : goal.put_elements-requires
put_elements-requires c = record {
  ordered = (spanned (elements c.args.d.now) c.args.n c.in-Some.first c.in-Some.end c.in-Some.ensures.span).ordered;
}

pub overflow_sub-end : goal.overflow_sub-end
overflow_sub-end c = (spanned (elements c.args.d.now)
    c.args.n c.in-Some.first c.in-Some.end c.in-Some.ensures.span).ordered

pub returns-in_err-put_elements : goal.returns-in_err-put_elements
returns-in_err-put_elements c =
    let span = spanned (elements c.args.d.now) c.args.n c.in-Some.first c.in-Some.end c.in-Some.ensures.span in
    as_text (stopped (ending_text (codes "tree") (c.in-Some.end - c.in-Some.first)) c.in_err-put_elements.ensures c.from_residual.ensures.0) (sym span.text)

pub returns : goal.returns
returns c =
    let span = spanned (elements c.args.d.now) c.args.n c.in-Some.first c.in-Some.end c.in-Some.ensures.span in
    as_text (next c.in_ok-put_elements.ensures c.put_ending.ensures) (sym span.text)
