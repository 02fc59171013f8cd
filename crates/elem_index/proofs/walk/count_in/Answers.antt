use Rattle.std.proofs.Common.{◌∙◌, ◌*◌, ◌≤◌, refl, sym, arith, length}
use Rattle.std.proofs.lemmas.Result.{err_from_is_err_and}
use Rattle.elem_index.proofs.FileWalk.{are_bytes, fault_here, steps_over, steps_end, going_more, run_ends, counted_start, counted_more}
use Rattle.elem_index.proofs.FileWalk.{counted_small, count_ends}
use Rattle.elem_index.proofs.walk.count_in.Goals as goal

pub returns-in_err-next_place-clause-first_fault : goal.returns-in_err-next_place-clause-first_fault
returns-in_err-next_place-clause-first_fault c =
    let p = err_from_is_err_and c.from_residual.result c.from_residual.ensures.1 in
    let bytes = are_bytes c.args.f.now (λ i. omega (arith, c.type_inv.f i)) in
    rw (p.1, p.2) (fault_here c.args.f.now bytes c.requires.tcb c.elements.invariant.1.kept c.elements.invariant.1.kinds c.elements.walk.at
    c.elements.invariant.1.going c.in_err-next_place.field-0.0 c.in_err-next_place.ensures.fault)

pub overflow_add-count : goal.overflow_add-count
overflow_add-count c =
    let small : 4 * c.elements.count ≤ length c.args.f.now = counted_small c.args.f.now c.elements.count c.elements.walk.at c.elements.invariant.1 in
    omega (arith, c.requires.bounded)

pub elements-preserved : goal.elements-preserved
elements-preserved c =
    let bytes = are_bytes c.args.f.now (λ i. omega (arith, c.type_inv.f i)) in
    let stands = steps_over c.args.f.now c.elements.walk.at c.next_place.new.self.at c.in_ok-next_place.field-0 (sym c.is_some.ensures ∙ c.if-is_some.true)
    c.in_ok-next_place.ensures.step in (
      c.in_ok-next_place.ensures.axes ∙ c.elements.invariant.0,
      counted_more c.args.f.now c.elements.invariant.1.kept _ c.elements.count c.elements.walk.at c.next_place.new.self.at c.elements.invariant.1.all
          (going_more c.args.f.now bytes c.requires.tcb c.elements.invariant.1.kept c.elements.invariant.1.kinds c.elements.walk.at
          c.elements.invariant.1.going c.elements.walk.at c.next_place.new.self.at (refl, stands)),
    )

pub returns-clause-count : goal.returns-clause-count
returns-clause-count c =
    let bytes = are_bytes c.args.f.now (λ i. omega (arith, c.type_inv.f i)) in
    let ends = steps_end c.args.f.now c.elements.walk.at c.next_place.new.self.at c.in_ok-next_place.field-0 (sym c.is_some.ensures ∙ c.if-is_some.false)
    c.in_ok-next_place.ensures.step in
    count_ends c.args.f.now c.elements.invariant.1.kept c.elements.invariant.1.kinds c.elements.count c.next_place.new.self.at c.elements.invariant.1.all
    (run_ends c.args.f.now bytes c.requires.tcb c.elements.invariant.1.kept c.elements.invariant.1.kinds c.elements.walk.at c.elements.invariant.1.going
    c.next_place.new.self.at ends)

pub elements-init : goal.elements-init
elements-init c = (c.begin-walk.ensures.axes, rw c.begin-walk.ensures.first (counted_start c.args.f.now))
