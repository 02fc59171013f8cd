use Rattle.elem_index.specs.Design.{elements}
use Rattle.edit_ops.specs.declared.causes.test.Test.TheVariants as tests
use Rattle.edit_ops.specs.Written.{lives_of}
use Rattle.edit_ops.proofs.ListedLive.{cause_both}
use Rattle.edit_ops.proofs.causes.in_place.locked.Goals as goal

pub returns : goal.returns
returns c =
    let both = cause_both c.args.d.now.dim tests.Unlocked (lives_of (elements c.args.d.now) c.args.above.now)
    (lives_of (elements c.args.d.now) c.args.live.now) in
    cc
