use Rattle.std.proofs.Common.{sym, ◌∙◌}
use Rattle.elem_index.specs.Design.{elements}
use Rattle.edit_ops.proofs.RootRows.{none_above, root_free}
use Rattle.edit_ops.proofs.parts.lone.is_lone_root.Goals as goal

-- a live element that is all of its part stands by itself, where it is a root and no number of its tree is broken
pub returns-in-Some-clause-free : goal.returns-in-Some-clause-free
returns-in-Some-clause-free c = λ _.
    let es = elements c.args.d.now in
    let one = c.in-Some.ensures.found in
    let root = c.is_sound_root.ensures.root c.if-is_sound_root.true in
    let sound = c.is_sound_root.ensures.sound c.if-is_sound_root.true in
    record {
      above = none_above es c.args.n root;
      live = c.in-Some.ensures.live;
      free = root_free es c.args.n root c.args.d.now.dim one.element c.requires.known sound one.there (sym one.deleted ∙ c.in-Some.ensures.alive);
    }
