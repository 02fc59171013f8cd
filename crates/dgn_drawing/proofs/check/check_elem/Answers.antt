use Rattle.std.proofs.Common.{rules, ◌≡◌, sym, ap, ◌∙◌, arith, true, false}
use Rattle.elem_head.specs.declared.types.Head.{Head}
use Rattle.elem_head.specs.Head.{kind_of}
use Rattle.dgn_layout.specs.Classes.{class_of, is_silent}
use Rattle.dgn_drawing.specs.Reading.{form_at}
use Rattle.dgn_drawing.specs.Faults.{is_shown}
use Rattle.dgn_drawing.proofs.BodyEnds.{silent_class, silent_sound, read_shown}
use Rattle.dgn_drawing.proofs.check.check_elem.Goals as goal

pub returns-then-is_silent : goal.returns-then-is_silent
returns-then-is_silent c =
    let kind = ap (λ (h : Head). is_silent (class_of h.kind)) c.head-kind.ensures in
    let silent : is_silent (class_of (kind_of c.args.b.now)) ≡ true = sym kind ∙ sym c.is_silent.ensures ∙ c.if-is_silent.true in
    let size = c.requires.element in
    sym (silent_sound c.args.dim c.args.b.now (silent_class _ silent) (omega arith))

pub returns-in-Some-attr_start : goal.returns-in-Some-attr_start
returns-in-Some-attr_start c =
    let kind = ap (λ (h : Head). is_silent (class_of h.kind)) c.head-kind.ensures in
    let read : is_silent (class_of (kind_of c.args.b.now)) ≡ false = sym kind ∙ sym c.is_silent.ensures ∙ c.if-is_silent.false in
    let shown : is_shown (form_at c.args.b.now) ≡ true = read_shown c.args.b.now read in
    search rules
