use Rattle.std.proofs.Common.{refl}
use Rattle.edit_ops.proofs.DesignElements.{head_fits, inside, found_here}
use Rattle.edit_ops.proofs.elements.finding.find.Goals as goal

pub head-head-requires : goal.head-head-requires
head-head-requires c = head_fits c.args.d.now c.is_whole.ensures c.args.n c.in_ok-bytes.bytes.now c.in_ok-bytes.ensures.bytes

pub returns-clause-found : goal.returns-clause-found
returns-clause-found c =
    found_here c.args.d.now c.is_whole.ensures c.args.n c.in_ok-bytes.bytes.now c.in_ok-bytes.ensures.bytes c.head-head.result c.head-head.ensures
    _ c.in_ok-place.ensures.place refl refl refl

pub invariant_of-result-clause-bounded : goal.invariant_of-result-clause-bounded
invariant_of-result-clause-bounded c =
    inside c.args.d.now c.is_whole.ensures c.args.n c.in_ok-bytes.bytes.now c.in_ok-bytes.ensures.bytes _ c.in_ok-place.ensures.place
