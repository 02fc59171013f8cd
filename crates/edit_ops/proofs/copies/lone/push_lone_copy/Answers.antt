use Rattle.std.proofs.Common.{sym, ap, ◌∙◌}
use Rattle.edit_ops.specs.Causes.{unmovable, off_plane}
use Rattle.edit_ops.proofs.LoneCopy.{copy_leaves_plane}
use Rattle.edit_ops.proofs.copies.lone.push_lone_copy.Goals as goal

pub returns-then-not-lay_copy-clause-refused : goal.returns-then-not-lay_copy-clause-refused
returns-then-not-lay_copy-clause-refused c =
    copy_leaves_plane c.args.d.now c.is_whole.ensures c.args.n c.args.found c.requires.found c.requires.live c.args.by.now
    (sym (c.unmovable.ensures ∙ ap (unmovable c.args.n) c.class.ensures) ∙ c.in_default.is)
    ∙ ap (off_plane c.args.n) (sym c.lay_copy.ensures.on_plane ∙ c.if-not-lay_copy.true)

pub returns-clause-accepted : goal.returns-clause-accepted
returns-clause-accepted c =
    copy_leaves_plane c.args.d.now c.is_whole.ensures c.args.n c.args.found c.requires.found c.requires.live c.args.by.now
    (sym (c.unmovable.ensures ∙ ap (unmovable c.args.n) c.class.ensures) ∙ c.in_default.is)
    ∙ ap (off_plane c.args.n) (sym c.lay_copy.ensures.on_plane ∙ c.if-not-lay_copy.false)
