use Rattle.std.proofs.Common.{◌∙◌, sym, ap, List, ℕ, subst, arith, length, ◌≤◌}
use Rattle.dgn_drawing.specs.Opening.{is_tcb, dimension}
use Rattle.elem_index.specs.Answers.{IsRun}
use Rattle.elem_index.proofs.OpeningAnswers.{opening-other}
use Rattle.elem_index.proofs.Places.{run_whole, run_opens}
use Rattle.elem_index.proofs.design.read_design.Goals as goal
use Rattle.dgn_drawing.specs.declared.limits.TheConstants.{MOST_DESIGN}

pub returns-then-not-begins_with_tcb-clause-opening : goal.returns-then-not-begins_with_tcb-clause-opening
returns-then-not-begins_with_tcb-clause-opening c =
    opening-other c.args.bytes.items (ap is_tcb (sym c.deref.ensures.value) ∙ sym c.begins_with_tcb.ensures ∙ c.if-not-begins_with_tcb.true)

pub returns-in-Ok-clause-whole : goal.returns-in-Ok-clause-whole
returns-in-Ok-clause-whole c =
    let few : length c.args.bytes.items ≤ MOST_DESIGN = omega (arith, ap (length {A = ℕ}) c.deref.ensures.value, c.deref.ensures.len, c.requires) in
    run_whole _ c.args.bytes.items c.in_ok-kept.end
    (subst (λ (f : List ℕ). IsRun f c.in_ok-kept.kept.items c.in_ok-kept.kinds.items c.in_ok-kept.end) c.deref-3.ensures.value c.in_ok-kept.ensures.opens)
    few (c.dimension-dim.ensures ∙ ap dimension c.deref-2.ensures.value) c.in-Ok.ensures.items c.in-Ok.ensures.tail

pub returns-in-Ok-clause-opening : goal.returns-in-Ok-clause-opening
returns-in-Ok-clause-opening c =
    let few : length c.args.bytes.items ≤ MOST_DESIGN = omega (arith, ap (length {A = ℕ}) c.deref.ensures.value, c.deref.ensures.len, c.requires) in
    run_opens (record {
      dim = c.dimension-dim.result;
      body = c.split_off.new.self;
      tail = c.in-Ok.tail;
      kept = c.in_ok-kept.kept;
      kinds =
          c.in_ok-kept.kinds;
    }) c.args.bytes.items c.in_ok-kept.end
    (subst (λ (f : List ℕ). IsRun f c.in_ok-kept.kept.items c.in_ok-kept.kinds.items c.in_ok-kept.end) c.deref-3.ensures.value c.in_ok-kept.ensures.opens)
    few (c.dimension-dim.ensures ∙ ap dimension c.deref-2.ensures.value) c.in-Ok.ensures.items c.in-Ok.ensures.tail
