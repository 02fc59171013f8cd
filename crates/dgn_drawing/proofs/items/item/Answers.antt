use Rattle.std.proofs.Common.{◌≡◌, sym, ap, ◌∙◌, arith, rules, true}
use denote.Enum.Bare.{same_true}
use Rattle.elem_head.specs.declared.types.Head.{Head}
use Rattle.elem_head.specs.Head.{kind_of}
use Rattle.dgn_drawing.specs.contracts.form.Form.{the_type}
use Rattle.dgn_drawing.specs.declared.form.Form.{Form}
use Rattle.dgn_drawing.specs.Forms.{form_of}
use Rattle.dgn_drawing.specs.Items.{item_body_of}
use Rattle.dgn_drawing.specs.Reading.{form_at, parts_at}
use Rattle.dgn_drawing.specs.Faults.{is_shown}
use Rattle.dgn_drawing.proofs.BodyEnds.{shown_from, sound_end}
use Rattle.dgn_drawing.proofs.BytesSpelled.{shown_after}
use Rattle.dgn_drawing.proofs.ItemsShown.{silent_item, shared_item, made_item}
use Rattle.dgn_drawing.proofs.items.item.Goals as goal

pub returns-then-eq : goal.returns-then-eq
returns-then-eq c =
    let silent : c.form_of-form.result ≡ Form.Silent = same_true the_type (search rules) _ _ (sym c.if-eq.ensures) in
    let form : c.form_of-form.result ≡ form_at c.args.b.now = c.form_of-form.ensures ∙ ap (λ (h : Head). form_of h.kind) c.head-head.ensures in
    sym (silent_item c.args.dim c.args.number c.args.depth c.args.b.now (sym form ∙ silent))

pub returns-then-head-eq-SHARED_CELL : goal.returns-then-head-eq-SHARED_CELL
returns-then-head-eq-SHARED_CELL c =
    let shown : is_shown c.form_of-form.result ≡ true = shown_from _ (λ silent. let h = rw silent at c.if-eq.ensures in cc h) in
    let form : c.form_of-form.result ≡ form_at c.args.b.now = c.form_of-form.ensures ∙ ap (λ (h : Head). form_of h.kind) c.head-head.ensures in
    let kind : c.head-head.result.kind ≡ kind_of c.args.b.now = ap (λ (h : Head). h.kind) c.head-head.ensures in
    sym (shared_item c.args.dim c.args.number c.args.depth c.args.b.now (sym (ap is_shown form) ∙ shown) (sym kind ∙ c.if-head-eq-SHARED_CELL.true))

pub symb-requires : goal.symb-requires
symb-requires c =
    let shown : is_shown c.form_of-form.result ≡ true = shown_from _ (λ silent. let h = rw silent at c.if-eq.ensures in cc h) in
    let form : c.form_of-form.result ≡ form_at c.args.b.now = c.form_of-form.ensures ∙ ap (λ (h : Head). form_of h.kind) c.head-head.ensures in
    let long = sound_end c.args.dim c.args.b.now c.requires.element in
    let after = shown_after c.args.dim c.args.b.now c.requires.dimension (sym (ap is_shown form) ∙ shown) in
    omega arith

pub range-requires : goal.range-requires
range-requires c =
    let shown : is_shown c.form_of-form.result ≡ true = shown_from _ (λ silent. let h = rw silent at c.if-eq.ensures in cc h) in
    let form : c.form_of-form.result ≡ form_at c.args.b.now = c.form_of-form.ensures ∙ ap (λ (h : Head). form_of h.kind) c.head-head.ensures in
    let long = sound_end c.args.dim c.args.b.now c.requires.element in
    let after = shown_after c.args.dim c.args.b.now c.requires.dimension (sym (ap is_shown form) ∙ shown) in
    omega arith

pub returns : goal.returns
returns c =
    let shown : is_shown c.form_of-form.result ≡ true = shown_from _ (λ silent. let h = rw silent at c.if-eq.ensures in cc h) in
    let form : c.form_of-form.result ≡ form_at c.args.b.now = c.form_of-form.ensures ∙ ap (λ (h : Head). form_of h.kind) c.head-head.ensures in
    let kind : c.head-head.result.kind ≡ kind_of c.args.b.now = ap (λ (h : Head). h.kind) c.head-head.ensures in
    made_item c.args.dim c.args.number c.args.depth c.args.b.now (sym (ap is_shown form) ∙ shown)
    (λ is. c.if-head-eq-SHARED_CELL.false (kind ∙ is))
    _ _ _ _ _ kind (ap (λ (h : Head). h.level) c.head-head.ensures) c.symb.ensures c.range.ensures
    (c.in_ok-body.ensures ∙ ap (λ (f : Form). item_body_of (parts_at f c.args.dim c.args.b.now)) form)
