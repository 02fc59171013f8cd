use Rattle.std.proofs.Common.{rules, ◌≡◌, ◌++◌, List, ℕ, Bool, codes, ap, ◌∙◌, sym, subst}
use Rattle.dgn_session.specs.State.{SessionValue}
use Rattle.dgn_answers.specs.Texts.{undo_text}
use Rattle.dgn_answers.proofs.LogSteps.{undo_logs}
use Rattle.dgn_answers.proofs.UndoRefusals.{not_refused}
use Rattle.dgn_answers.proofs.answers.answer_undo.Goals as goal

pub returns-in-Ok : goal.returns-in-Ok
returns-in-Ok c =
    let done = not_refused c.args.s.now c.in-Ok.ensures.nothing.1 in
    record {
      text = subst (λ (b : Bool). c.put_known.new.out.items ≡ c.args.out.now.items ++ undo_text b) (sym done)
          (c.put_known.ensures.bytes ∙ ap (λ (o : List ℕ). o ++ codes "ok\n") c.reserve.ensures.items);
      refused = sym done;
      trees = search rules;
      state = search rules;
      logged = undo_logs c.args.s.now c.undo.new.self c.in-Ok.ensures.nothing.1 c.in-Ok.ensures.back
          (ap (λ (v : SessionValue). v.dim) c.in-Ok.ensures.value);
      tail = search rules;
      kept = tt;
      front = tt;
    }
