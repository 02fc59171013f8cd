use Rattle.std.proofs.Common.{◌≡◌, ap, subst}
use Rattle.std.specs.Prelude.{IfOk}
use Rattle.dgn_session.specs.State.{State, state_of}
use Rattle.elem_index.specs.Opened.{Opened}
use Rattle.dgn_answers.specs.Commands.{first_state}
use Rattle.dgn_tool.proofs.GeneratedDrawings.{few_made, begins, tail_begun}
use Rattle.dgn_tool.proofs.generation.begin.Goals as goal

pub read_design-requires : goal.read_design-requires
read_design-requires c = few_made c.args.seed c.args.count c.in_ok-bytes.bytes c.requires.bounded c.in_ok-bytes.ensures

pub returns-in-Ok-clause-state : goal.returns-in-Ok-clause-state
returns-in-Ok-clause-state c =
    let same = begins c.args.seed c.args.count c.in_ok-bytes.bytes.items c.in-Ok.design c.requires.bounded c.in_ok-bytes.ensures c.in-Ok.ensures.whole
    c.in-Ok.ensures.text in
    subst (λ (x : State). IfOk c.start.result (λ s. state_of s ≡ x)) (ap first_state same) c.start.ensures.begun

pub returns-in-Ok-clause-tail : goal.returns-in-Ok-clause-tail
returns-in-Ok-clause-tail c =
    let same = begins c.args.seed c.args.count c.in_ok-bytes.bytes.items c.in-Ok.design c.requires.bounded c.in_ok-bytes.ensures c.in-Ok.ensures.whole
    c.in-Ok.ensures.text in
    tail_begun c.start.result c.in-Ok.design _ c.start.ensures.value (ap (λ (d : Opened). d.tail) same)
