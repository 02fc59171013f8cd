use Rattle.std.proofs.Common.{◌≡◌, None, sym, ◌∙◌}
use Rattle.elem_index.specs.Design.{elements}
use Rattle.edit_ops.specs.Causes.{first_of}
use Rattle.edit_ops.specs.Asked.{causes_asked}
use Rattle.edit_ops.proofs.SumsLast.{headers_widen, live_readable}
use Rattle.edit_ops.proofs.plans.edit.plan_found.Goals as goal

pub push_part-requires : goal.push_part-requires
push_part-requires c =
    let d = c.args.d.now in
    let none : first_of (causes_asked d.dim (elements d) c.args.edit.now) ≡ None = sym c.edit_cause.ensures ∙ c.in_default.is in
    record {
      known = c.requires.known;
      unkept = c.requires.unkept;
      above = c.requires.above;
      live = c.requires.live;
      widens = headers_widen d.dim (elements d) c.args.edit.now c.args.n c.requires.target none;
      readable = live_readable d.dim (elements d) c.args.edit.now c.args.n c.requires.target c.requires.in_place none;
    }
