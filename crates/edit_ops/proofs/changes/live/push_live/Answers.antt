use Rattle.std.proofs.Common.{◌+◌, ◌++◌, List, get_or, drop, Option, sym, ap, ◌∙◌, subst}
use Rattle.std.specs.Option.{option_or, option_to_list}
use Rattle.std.proofs.lemmas.Result.{err_from_is_err_and}
use Rattle.elem_index.specs.Design.{elements}
use Rattle.patch_bytes.specs.Puts.{Put}
use Rattle.edit_ops.specs.declared.causes.cause.Cause.{Cause}
use Rattle.edit_ops.specs.Trees.{Live, found_at}
use Rattle.edit_ops.specs.Rules.{rule_of}
use Rattle.edit_ops.specs.Written.{lives_of, live_puts}
use Rattle.edit_ops.proofs.ListedLive.{puts_next, each_next}
use Rattle.edit_ops.specs.Copying.{IsStopped}
use Rattle.edit_ops.specs.Putting.{MayBePut, leaving}
use Rattle.edit_ops.proofs.LeavingElements.{leaving_next, stopped_first}
use Rattle.edit_ops.proofs.changes.live.push_live.Goals as goal

pub live-preserved : goal.live-preserved
live-preserved c =
    let d = c.args.d.now in
    let es = elements c.args.d.now in
    record {
      readable = (each_next (λ (v : Live). MayBePut c.args.edit.now v.element) (elements c.args.d.now)
          c.args.live.now c.live.m-index c.live-test.true c.live.invariant.readable).1;
      all =
          ap (λ (ps : List Put). ps ++ live_puts (rule_of c.args.d.now.dim c.args.edit.now)
          (lives_of (elements c.args.d.now) (drop (c.live.m-index + 1) c.args.live.now)))
          c.in_ok-push_patches.ensures.0
          ∙ puts_next (rule_of c.args.d.now.dim c.args.edit.now) (elements c.args.d.now) c.args.live.now c.live.m-index c.live.patches c.live-test.true
          ∙ c.live.invariant.all;
      same =
          ap (λ (o : Option Cause). option_or o (leaving d.dim c.args.edit.now (lives_of es (drop (c.live.m-index + 1) c.args.live.now))))
          (sym c.in_ok-push_patches.ensures.1)
          ∙ sym (leaving_next d.dim c.args.edit.now es c.args.live.now c.live.m-index c.live-test.true)
          ∙ c.live.invariant.same;
    }

pub returns-in_err-push_patches : goal.returns-in_err-push_patches
returns-in_err-push_patches c =
    let d = c.args.d.now in
    let es = elements c.args.d.now in
    let m = get_or c.args.live.now c.live.m-index 0 in
    let first = leaving d.dim c.args.edit.now (option_to_list (found_at es m)) in
    let others = leaving d.dim c.args.edit.now (lives_of es (drop (c.live.m-index + 1) c.args.live.now)) in
    let p = err_from_is_err_and c.from_residual-in_err-push_patches.result c.from_residual-in_err-push_patches.ensures.1 in
    rw (p.1, p.2)
    (subst (λ (o : Option Cause). IsStopped o c.in_err-push_patches.field-0.0)
    (sym (leaving_next d.dim c.args.edit.now es c.args.live.now c.live.m-index c.live-test.true) ∙ c.live.invariant.same)
    (stopped_first first others c.in_err-push_patches.field-0.0 c.in_err-push_patches.ensures))
