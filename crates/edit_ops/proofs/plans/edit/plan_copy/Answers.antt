use Rattle.std.proofs.Common.{◌≡◌, List, Option, Some, None, sym, ap, ◌∙◌, subst}
use Rattle.std.specs.Option.{option_or}
use Rattle.dgn_drawing.specs.Values.{Displacement}
use Rattle.dgn_drawing.specs.Spelling.{spelling}
use Rattle.dgn_drawing.specs.Nesting.{flat}
use Rattle.elem_index.specs.Design.{elements}
use Rattle.edit_ops.specs.declared.causes.test.Test.TheVariants as tests
use Rattle.edit_ops.specs.declared.causes.cause.Cause.{Cause}
use Rattle.edit_ops.specs.Trees.{Live, live_tree}
use Rattle.edit_ops.specs.Causes.{other_axes, first_cause, part_cause}
use Rattle.edit_ops.specs.Copying.{copy_cause, tree_copy, AddsUnless}
use Rattle.edit_ops.specs.Written.{lives_of}
use Rattle.edit_ops.proofs.CopyLength.{long_copy, short_copy}
use Rattle.edit_ops.proofs.LeavingElements.{adds_of}
use Rattle.edit_ops.proofs.plans.edit.plan_copy.Goals as goal

pub returns-in-Some-growth_cause : goal.returns-in-Some-growth_cause
returns-in-Some-growth_cause c =
    let d = c.args.d.now in
    let es = elements c.args.d.now in
    let free : option_or (part_cause d.dim es c.args.n) (other_axes d.dim c.args.by.now.axes) ≡ None =
    ap (λ (by : Displacement). option_or (part_cause d.dim es c.args.n) (other_axes d.dim by.axes)) (sym c.by.view_is)
    ∙ ap (option_or (part_cause d.dim es c.args.n)) (sym (rw c.dim.ensures.value at c.other_axes.ensures))
    ∙ ap (λ (o : Option Cause). option_or o c.other_axes.result) (sym c.part_cause.ensures)
    ∙ sym c.or-first.ensures ∙ c.in_default.is in
    let are : lives_of es c.deref-in-Some-growth_cause.result.now ≡ live_tree es c.args.n =
    ap (lives_of es) c.deref-in-Some-growth_cause.ensures.value ∙ c.in_ok-put_live_numbers.ensures.found in
    let itself : c.move_cause.result ≡ copy_cause d.dim es c.args.by.now c.args.n =
    c.move_cause.ensures ∙ ap (λ (vs : List Live). option_or (first_cause d.dim tests.Moves vs) (first_cause d.dim (tests.StaysOnPlane c.args.by.now) vs))
    are in
    long_copy d c.is_whole.ensures c.args.n c.args.pending c.part_len.result c.args.by.now free c.part_len.ensures.exact c.move_cause.result
    c.in-Some-growth_cause.long itself
    (sym c.growth_cause.ensures ∙ c.in-Some-growth_cause.is)
    ∙ ap (λ (x : Cause). Some x) (sym c.unwrap_or-cause.ensures)

pub returns : goal.returns
returns c =
    let d = c.args.d.now in
    let es = elements c.args.d.now in
    let free : option_or (part_cause d.dim es c.args.n) (other_axes d.dim c.args.by.now.axes) ≡ None =
    ap (λ (by : Displacement). option_or (part_cause d.dim es c.args.n) (other_axes d.dim by.axes)) (sym c.by.view_is)
    ∙ ap (option_or (part_cause d.dim es c.args.n)) (sym (rw c.dim.ensures.value at c.other_axes.ensures))
    ∙ ap (λ (o : Option Cause). option_or o c.other_axes.result) (sym c.part_cause.ensures)
    ∙ sym c.or-first.ensures ∙ c.in_default.is in
    let all = short_copy d c.is_whole.ensures c.args.n c.args.pending c.part_len.result c.args.by.now free c.part_len.ensures.exact
    (sym c.growth_cause.ensures ∙ c.in_default-growth_cause.is) in
    let bytes = spelling (flat (tree_copy d.dim es c.args.by.now c.args.n)) in
    subst (λ (o : Option Cause). AddsUnless o bytes c.copy_tree.result c.args.append.now c.copy_tree.new.out) (sym all)
    (adds_of (copy_cause d.dim es c.args.by.now c.args.n) bytes c.copy_tree.result c.args.append.now c.copy_tree.new.out
    c.copy_tree.ensures.copied c.copy_tree.ensures.accepted c.copy_tree.ensures.refused)
