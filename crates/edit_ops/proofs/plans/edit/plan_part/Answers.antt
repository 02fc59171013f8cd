use Rattle.std.proofs.Common.{◌≡◌, ◌+◌, ◌++◌, [], ◌<◌, length, refl, sym, ap, ◌∙◌}
use Rattle.std.specs.Option.{option_or}
use Rattle.dgn_drawing.specs.declared.edit.Edit.{Edit}
use Rattle.dgn_drawing.specs.declared.edit.Edit.TheVariants as edit
use Rattle.dgn_drawing.specs.Spelling.{spelling}
use Rattle.dgn_drawing.specs.Nesting.{flat}
use Rattle.elem_index.specs.Design.{elements}
use Rattle.edit_ops.specs.declared.types.plan.Plan.{Plan}
use Rattle.edit_ops.specs.Causes.{part_cause, causes_of, first_of}
use Rattle.edit_ops.specs.Copying.{tree_copy}
use Rattle.edit_ops.specs.Rules.{rule_of}
use Rattle.edit_ops.specs.Written.{part_puts}
use Rattle.edit_ops.proofs.PlanBehind.{appends_behind, writes_behind}
use Rattle.edit_ops.proofs.CauseOrder.{known_is, later_first, planned_unless, puts_in_place, causes_in_place, is_in_place}
use Rattle.edit_ops.proofs.EditsLeft.{own_puts, own_bytes}
use Rattle.edit_ops.proofs.EditLaws.{edit_plan}
use Rattle.edit_ops.proofs.CauseOrder.{copy_named}
use Rattle.edit_ops.proofs.plans.edit.plan_part.Goals as goal

pub returns-in-Copy : goal.returns-in-Copy
returns-in-Copy c =
    let d = c.args.d.now in
    let es = elements c.args.d.now in
    let rest = length c.args.d.now.tail.items + c.args.pending in
    let e : Edit = c.args.edit.now in
    let known : c.args.n < length es = known_is c.args.n es (sym c.unknown.ensures ∙ c.in_default.is) in
    let named : e ≡ edit.Copy c.args.n c.in-Copy.by = copy_named e c.in-Copy.n c.args.n c.in-Copy.by c.in-Copy.is c.requires.target in
    let same = ap (λ (x : Edit). option_or (part_cause d.dim es c.args.n) (first_of (causes_of d.dim es rest x))) named in
    let bytes = spelling (flat (tree_copy d.dim es c.in-Copy.by c.args.n)) in
    let after : Plan = record { patches = c.args.all.now.patches; append = c.plan_copy.new.append } in
    record {
      planned = planned_unless bytes c.args.all.now.append c.plan_copy.new.append d.dim es rest e c.args.n c.plan_copy.result c.args.all.now after
          c.requires.target known same c.plan_copy.ensures
          (λ more free.
          appends_behind d.dim es rest e c.args.all.now after bytes
          (edit_plan (d.body.items ++ d.tail.items) d.dim es d.tail.items rest e c.requires.fits c.is_whole.ensures.is_open.opens
          (later_first d.dim es rest e c.args.n c.requires.target known ∙ same ∙ free) (record { patches = []; append = bytes })
          (sym (ap (own_puts d.dim es) named)) (sym (ap (own_bytes d.dim es) named)))
          refl more);
      known = λ _. known;
    }

pub returns : goal.returns
returns c =
    let d = c.args.d.now in
    let es = elements c.args.d.now in
    let rest = length c.args.d.now.tail.items + c.args.pending in
    let e : Edit = c.args.edit.now in
    let known : c.args.n < length es = known_is c.args.n es (sym c.unknown.ensures ∙ c.in_default.is) in
    let here = is_in_place e c.args.n c.requires.target c.in_default-edit.not-Copy in
    let same = ap (option_or (part_cause d.dim es c.args.n)) (causes_in_place d.dim es rest e here) in
    let puts = part_puts (rule_of d.dim e) es c.args.n in
    let own = puts_in_place d.dim es e c.args.n c.requires.target here in
    let after : Plan = record { patches = c.plan_in_place.new.patches; append = c.args.all.now.append } in
    record {
      planned = planned_unless puts c.args.all.now.patches c.plan_in_place.new.patches d.dim es rest e c.args.n c.plan_in_place.result c.args.all.now after
          c.requires.target known same c.plan_in_place.ensures
          (λ more free.
          writes_behind d.dim es rest e c.args.all.now after puts
          (edit_plan (d.body.items ++ d.tail.items) d.dim es d.tail.items rest e c.requires.fits c.is_whole.ensures.is_open.opens
          (later_first d.dim es rest e c.args.n c.requires.target known ∙ same ∙ free) (record { patches = puts; append = [] })
          (sym own.0) (sym own.1))
          more refl);
      known = λ _. known;
    }
