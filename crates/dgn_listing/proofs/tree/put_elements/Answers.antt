use Rattle.std.proofs.Common.{◌-◌, arith}
use Rattle.elem_index.specs.Design.{elements}
use Rattle.dgn_listing.specs.TreeTexts.{element_text}
use Rattle.dgn_listing.proofs.NumberTexts.{none_counted, among_counted, one_counted, all_counted}
use Rattle.dgn_listing.proofs.tree.put_elements.Goals as goal

pub loop-n-init : goal.loop-n-init
loop-n-init c = none_counted (element_text (elements c.args.d.now)) c.args.first c.args.out.now.items

pub returns-in_err-put_element : goal.returns-in_err-put_element
returns-in_err-put_element c =
    among_counted (c.args.end - c.args.first) c.loop-n.invariant c.loop-n.auto.n (omega arith) c.in_err-put_element.ensures c.from_residual.ensures.0

pub loop-n-preserved : goal.loop-n-preserved
loop-n-preserved c = one_counted c.loop-n.invariant c.loop-n.auto.n c.in_ok-put_element.ensures

pub returns : goal.returns
returns c = all_counted (c.args.end - c.args.first) c.loop-n.invariant (omega arith)
