use Rattle.std.proofs.Common.{◌≤◌, ◌+◌, ℕ, drop, ◌∙◌, sym, subst}
use Rattle.std.proofs.lemmas.Result.{err_from_is_err_and}
use Rattle.dgn_desk.specs.Seen.{seen}
use Rattle.dgn_session.specs.State.{state_of}
use Rattle.dgn_answers.specs.Steps.{steps_of}
use Rattle.dgn_import.specs.Seconds.{seconds_left}
use Rattle.dgn_tool.proofs.CommandsInTurn.{Ran, is_next, ran_more, ran_part}
use Rattle.dgn_answers.proofs.Counting.{refused_few}
use Rattle.dgn_tool.proofs.commands.run_all.Goals as goal

pub commands-preserved : goal.commands-preserved
commands-preserved g c =
    let did = c.in-Ok.ensures.answered in
    let next =
    is_next _ c.args.commands.now c.commands.command-index c.command-item.result (seconds_left c.commands.seconds.items)
    (seconds_left c.take_step.new.seconds.items)
    _ _ _ _ _ c.commands-test.true c.command-item.is c.take_step.ensures.left c.commands.invariant.ran
    c.deref.result.now c.take_step.new.out.items c.clear.new.self.items c.deref.ensures.value did.text c.clear.ensures.items in
    record {
      ran = subst (λ (n : ℕ). Ran (steps_of c.args.commands.now (seconds_left c.args.seconds.now.items))
          (steps_of (drop (c.commands.command-index + 1) c.args.commands.now) (seconds_left c.take_step.new.seconds.items)) (c.commands.refused + n)
          (state_of c.args.session.now) (state_of c.take_step.new.s) (seen g.D.Desk c.args.desk.now) (seen g.D.Desk c.say_all.new.desk))
          (sym c.from-refused.ensures)
          (ran_more _ _ _ c.commands.refused c.in-Ok.answered.refused _ _ _ (state_of c.take_step.new.s) _ _ (seen g.D.Desk c.say_all.new.desk)
          next did.state c.in_ok-say_all.ensures did.refused);
      tail = c.take_step.ensures.answered.tail ∙ c.commands.invariant.tail;
      sound = c.take_step.ensures.sound;
      most = subst (λ (n : ℕ). c.commands.refused + n ≤ c.commands.command-index + 1) (sym c.from-refused.ensures)
          (refused_few c.commands.refused c.commands.command-index c.in-Ok.answered.refused c.commands.invariant.most);
    }

pub returns-in_err-say_all-clause-said : goal.returns-in_err-say_all-clause-said
returns-in_err-say_all-clause-said g c =
    let p = err_from_is_err_and c.from_residual.result c.from_residual.ensures.1 in
    let next =
    is_next _ c.args.commands.now c.commands.command-index c.command-item.result (seconds_left c.commands.seconds.items)
    (seconds_left c.take_step.new.seconds.items)
    _ _ _ _ _ c.commands-test.true c.command-item.is c.take_step.ensures.left c.commands.invariant.ran
    c.deref.result.now c.take_step.new.out.items c.clear.new.self.items c.deref.ensures.value c.in-Ok.ensures.answered.text c.clear.ensures.items in
    rw (p.1, p.2) (ran_part _ _ _ c.commands.refused c.in_err-say_all.field-0.0 _ _ _ _ _ (seen g.D.Desk c.say_all.new.desk) next c.in_err-say_all.ensures)
