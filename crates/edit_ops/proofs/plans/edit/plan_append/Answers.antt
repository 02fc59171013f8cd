use Rattle.std.proofs.Common.{◌+◌, ℕ, List, [], ◌++◌, length, refl, sym, ap, ◌∙◌}
use Rattle.dgn_drawing.specs.Spelling.{spell}
use Rattle.dgn_drawing.specs.NewElements.{element_made}
use Rattle.elem_index.specs.Design.{elements}
use Rattle.edit_ops.specs.Causes.{cause_of}
use Rattle.edit_ops.proofs.PlanBehind.{appends_behind}
use Rattle.edit_ops.proofs.EditsLeft.{own_puts, own_bytes}
use Rattle.edit_ops.proofs.EditLaws.{edit_plan}
use Rattle.edit_ops.proofs.plans.edit.plan_append.Goals as goal

pub returns-clause-planned : goal.returns-clause-planned
returns-clause-planned c =
    let d = c.args.d.now in
    let rest = length c.args.d.now.tail.items + c.args.pending in
    let bytes = spell (element_made c.in-Append.new) in
    appends_behind d.dim (elements d) rest c.args.edit.now c.args.all.now (record { patches = c.args.all.now.patches; append = c.push_all.new.self }) bytes
    (edit_plan (d.body.items ++ d.tail.items) d.dim (elements d) d.tail.items rest c.args.edit.now c.requires.fits c.is_whole.ensures.is_open.opens
    (ap (cause_of d.dim (elements d) rest) c.in-Append.is ∙ sym c.append_cause.ensures ∙ c.in_default-append_cause.is)
    (record { patches = []; append = bytes })
    (sym (ap (own_puts d.dim (elements d)) c.in-Append.is)) (sym (ap (own_bytes d.dim (elements d)) c.in-Append.is)))
    refl (c.in_ok-push_all.ensures.ok ∙ ap (λ (b : List ℕ). c.args.all.now.append ++ b) c.in_ok-bytes.ensures)
