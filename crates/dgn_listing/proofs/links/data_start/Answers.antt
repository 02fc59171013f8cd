use Rattle.std.proofs.Common.{◌≡◌, ap, sym, ◌∙◌, false}
use Rattle.elem_head.specs.declared.types.Head.{Head}
use Rattle.elem_head.specs.Head.{kind_of}
use Rattle.dgn_layout.specs.Classes.{class_of, is_silent}
use Rattle.dgn_listing.proofs.AttributeData.{loud, start_none, start_found, start_within}
use Rattle.dgn_listing.proofs.links.data_start.Goals as goal

pub attr_start-requires : goal.attr_start-requires
attr_start-requires c =
    let heard : is_silent (class_of (kind_of c.args.b.now)) ≡ false =
    ap (λ (h : Head). is_silent (class_of h.kind)) (sym c.head.ensures) ∙ (sym c.is_silent.ensures ∙ c.if-is_silent.false) in
    (loud c.args.b.now c.requires heard).long

pub returns-then-is_silent-clause-start : goal.returns-then-is_silent-clause-start
returns-then-is_silent-clause-start c =
    start_none c.args.b.now (ap (λ (h : Head). is_silent (class_of h.kind)) (sym c.head.ensures) ∙ (sym c.is_silent.ensures ∙ c.if-is_silent.true))

pub returns-else-is_silent-clause-start : goal.returns-else-is_silent-clause-start
returns-else-is_silent-clause-start c =
    let heard : is_silent (class_of (kind_of c.args.b.now)) ≡ false =
    ap (λ (h : Head). is_silent (class_of h.kind)) (sym c.head.ensures) ∙ (sym c.is_silent.ensures ∙ c.if-is_silent.false) in
    start_found c.args.b.now c.attr_start.result heard c.attr_start.ensures.set c.attr_start.ensures.clear c.attr_start.ensures.start

pub returns-else-is_silent-clause-within : goal.returns-else-is_silent-clause-within
returns-else-is_silent-clause-within c =
    let heard : is_silent (class_of (kind_of c.args.b.now)) ≡ false =
    ap (λ (h : Head). is_silent (class_of h.kind)) (sym c.head.ensures) ∙ (sym c.is_silent.ensures ∙ c.if-is_silent.false) in
    start_within c.args.b.now c.attr_start.result (loud c.args.b.now c.requires heard) c.attr_start.ensures.set c.attr_start.ensures.start
