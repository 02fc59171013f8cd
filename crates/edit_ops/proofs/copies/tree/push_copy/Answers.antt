use Rattle.std.proofs.Common.{sym, ap, ◌∙◌}
use Rattle.elem_index.specs.Design.{elements}
use Rattle.edit_ops.specs.Trees.{live_tree}
use Rattle.edit_ops.specs.Putting.{leaving}
use Rattle.edit_ops.proofs.LeavingElements.{ready_staying}
use Rattle.edit_ops.proofs.copies.tree.push_copy.Goals as goal

pub lay_part-requires-clause-ready : goal.lay_part-requires-clause-ready
lay_part-requires-clause-ready c =
    ready_staying c.args.d.now.dim c.args.edit.now (live_tree (elements c.args.d.now) c.args.n) c.requires.readable
    (ap (leaving c.args.d.now.dim c.args.edit.now) (sym c.requires.live) ∙ c.in_ok-push_live.ensures.1)
