use Rattle.std.proofs.Common.{◌≡◌, None, sym, ap, ◌∙◌}
use Rattle.elem_index.specs.Design.{elements}
use Rattle.edit_ops.specs.declared.causes.test.Test.TheVariants as tests
use Rattle.edit_ops.specs.Trees.{live_tree}
use Rattle.edit_ops.specs.Causes.{first_cause}
use Rattle.edit_ops.specs.Written.{lives_of}
use Rattle.edit_ops.proofs.LeavingElements.{movable_fit}
use Rattle.edit_ops.proofs.copies.copy.push_tree_copy.Goals as goal

pub push_copy-requires-clause-readable : goal.push_copy-requires-clause-readable
push_copy-requires-clause-readable c =
    let d = c.args.d.now in
    let es = elements c.args.d.now in
    let are : lives_of es c.deref.result.now ≡ live_tree es c.args.n = ap (lives_of es) c.deref.ensures.value ∙ c.in_ok-live.ensures.found in
    let none : first_cause d.dim tests.Moves (live_tree es c.args.n) ≡ None =
    ap (first_cause d.dim tests.Moves) (sym are) ∙ sym c.first_cause.ensures ∙ c.in_default-first_cause.is in
    movable_fit d.dim c.args.n c.same_shift.result (live_tree es c.args.n) none
