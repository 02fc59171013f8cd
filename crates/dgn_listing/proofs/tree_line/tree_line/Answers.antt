use Rattle.dgn_listing.proofs.LineFields.{long_enough, line_is}
use Rattle.dgn_listing.proofs.tree_line.tree_line.Goals as goal

pub head-head-requires : goal.head-head-requires
head-head-requires c = long_enough c.args.d.now c.is_whole.ensures c.args.n c.in_ok-bytes.bytes.now c.in_ok-bytes.ensures.bytes

pub returns : goal.returns
returns c =
    line_is c.args.d.now c.is_whole.ensures c.args.n c.in_ok-bytes.bytes.now c.head-head.result c.in_ok-depth.depth
    c.in_ok-knot.knot c.in_ok-parent.parent
    c.in_ok-bytes.ensures.bytes c.head-head.ensures c.in_ok-depth.ensures.depth c.in_ok-knot.ensures.knot c.in_ok-parent.ensures.parent c.is_orphan.result
    c.is_orphan.ensures
