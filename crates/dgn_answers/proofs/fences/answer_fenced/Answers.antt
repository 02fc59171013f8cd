use Rattle.std.proofs.Common.{◌≡◌, ◌++◌, List, ℕ, None, codes, refl, ap, sym, subst, ◌∙◌}
use Rattle.dgn_session.specs.Answers.{IsFenceRefused}
use Rattle.dgn_session.specs.State.{SessionValue, state_of, fence_applied}
use Rattle.dgn_answers.specs.Logs.{IsLogOf}
use Rattle.dgn_answers.proofs.fences.answer_fenced.Goals as goal

pub returns-in-Err-NoFence : goal.returns-in-Err-NoFence
returns-in-Err-NoFence c =
    let s = state_of c.args.s.now in
    let none : fence_applied c.args.mode c.args.edit.now s ≡ None =
    subst (IsFenceRefused (fence_applied c.args.mode c.args.edit.now s)) c.in-Err-NoFence.field-0-is c.in-Err-NoFence.ensures.refused in
    let kept : c.edit_fence.new.self ≡ c.args.s.now = c.in-Err-NoFence.ensures.kept in
    rw none (record {
      text = c.put_known.ensures.bytes ∙ ap (λ (o : List ℕ). o ++ codes "refused no-fence\n") c.reserve.ensures.items;
      refused = refl;
      trees = refl;
      state = ap state_of kept;
      logged = λ left log. subst (λ (v : SessionValue). IsLogOf v left) (sym kept) log;
      tail = ap (λ (v : SessionValue). v.tail) kept;
      kept = tt;
      front = tt;
    })
