use Rattle.std.proofs.Common.{◌≡◌, ℕ, ◌∙◌, ◌++◌, ◌∷◌, [], drop, ap, arith, subst}
use Rattle.std.proofs.lemmas.Result.{err_from_is_err_and}
use Rattle.elem_index.specs.Answers.{Steps}
use Rattle.elem_index.specs.Kinds.{kind_with}
use Rattle.elem_index.specs.Design.{kind_at}
use Rattle.elem_index.proofs.FileWalk.{are_bytes, fault_here, counted_here, going_more, run_ends}
use Rattle.elem_index.proofs.walk.elements_in.Goals as goal

pub returns-in_err-at-clause-first_fault : goal.returns-in_err-at-clause-first_fault
returns-in_err-at-clause-first_fault c =
    let p = err_from_is_err_and c.from_residual.result c.from_residual.ensures.1 in
    let bytes = are_bytes c.args.f.now (λ i. omega (arith, c.type_inv.f i)) in
    rw (p.1, p.2) (fault_here c.args.f.now bytes c.requires.tcb c.elements.kept.items c.elements.kinds.items c.elements.walk.at c.elements.invariant.1
    c.in_err-at.field-0.0 c.in_err-at.ensures.fault)

pub total_said-requires-clause-total : goal.total_said-requires-clause-total
total_said-requires-clause-total c =
    let bytes = are_bytes c.args.f.now (λ i. omega (arith, c.type_inv.f i)) in
    let step = subst (Steps c.args.f.now c.elements.walk.at c.next_place.new.self.at) c.in-Some.is c.in_ok-at.ensures.step in
    let rest : c.split_at.result.1.now ≡ drop c.elements.walk.at c.args.f.now =
    c.split_at.ensures.back ∙ ap (λ (k : ℕ). drop k c.args.f.now) step.0 in
    rw rest (counted_here c.args.f.now bytes c.elements.walk.at c.next_place.new.self.at step.1)

pub elements-preserved : goal.elements-preserved
elements-preserved c =
    let bytes = are_bytes c.args.f.now (λ i. omega (arith, c.type_inv.f i)) in
    let step = subst (Steps c.args.f.now c.elements.walk.at c.next_place.new.self.at) c.in-Some.is c.in_ok-at.ensures.step in
    let rest : c.split_at.result.1.now ≡ drop c.elements.walk.at c.args.f.now =
    c.split_at.ensures.back ∙ ap (λ (k : ℕ). drop k c.args.f.now) step.0 in
    let offsets : c.push.new.self.items ≡ c.elements.kept.items ++ c.in-Some.at ∷ [] =
    grind (arith, c.push.ensures.items, c.is_err.ensures, c.if-is_err.false) in
    let kinds : c.push-else-is_err.new.self.items ≡ c.elements.kinds.items ++ kind_with c.kind_byte.result c.total_said.result ∷ [] =
    grind (arith, c.push-else-is_err.ensures.ok, c.is_err-else-is_err.ensures, c.if-is_err-2.false) in
    let kind : kind_with c.kind_byte.result c.total_said.result ≡ kind_at (drop c.elements.walk.at c.args.f.now) =
    ap (λ (byte : ℕ). kind_with byte c.total_said.result) c.kind_byte.ensures ∙ c.total_said.ensures.kind ∙ ap kind_at rest in (
      c.in_ok-at.ensures.axes ∙ c.elements.invariant.0,
      rw (offsets, kinds, kind)
          (going_more c.args.f.now bytes c.requires.tcb c.elements.kept.items c.elements.kinds.items c.elements.walk.at c.elements.invariant.1 c.in-Some.at
          c.next_place.new.self.at step),
    )

pub returns-clause-opens : goal.returns-clause-opens
returns-clause-opens c =
    let bytes = are_bytes c.args.f.now (λ i. omega (arith, c.type_inv.f i)) in
    let ends = subst (Steps c.args.f.now c.elements.walk.at c.next_place.new.self.at) c.in_default.is c.in_ok-at.ensures.step in
    run_ends c.args.f.now bytes c.requires.tcb c.elements.kept.items c.elements.kinds.items c.elements.walk.at c.elements.invariant.1
    c.next_place.new.self.at ends
