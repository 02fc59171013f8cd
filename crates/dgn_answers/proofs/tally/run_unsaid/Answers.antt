use Rattle.std.proofs.Common.{rules, ◌≤◌, ◌+◌, List, ℕ, drop, ◌∙◌, sym, subst}
use Rattle.std.specs.Int.{from_bool}
use Rattle.std.proofs.lemmas.List.{drop_all}
use Rattle.dgn_import.specs.Seconds.{SecondValue}
use Rattle.dgn_session.specs.State.{state_of}
use Rattle.dgn_drawing.specs.declared.command.Command.{Command}
use Rattle.dgn_answers.specs.Steps.{Step, step_of, steps_of}
use Rattle.dgn_import.specs.Seconds.{seconds_left}
use Rattle.dgn_answers.proofs.Stepping.{next_step, none_left}
use Rattle.dgn_answers.proofs.Counting.{refused_few}
use Rattle.dgn_answers.proofs.TallySteps.{Tallied, tallied_more, tallied_count, tallied_trees, tallied_state}
use Rattle.dgn_answers.proofs.LogSteps.{LogsSo, logs_more, logs_all}
use Rattle.dgn_answers.proofs.tally.run_unsaid.Goals as goal

pub commands-preserved : goal.commands-preserved
commands-preserved c =
    let command : Command = c.command-item.result in
    let vs : List SecondValue = seconds_left c.commands.seconds.items in
    let all : List Step = steps_of c.args.commands.now (seconds_left c.args.seconds.now.items) in
    let more : List Step = steps_of (drop (c.commands.command-index + 1) c.args.commands.now) (seconds_left c.take_step.new.seconds.items) in
    let step : Step = step_of command vs in
    let next =
    next_step c.args.commands.now c.commands.command-index command vs (seconds_left c.take_step.new.seconds.items) c.commands-test.true c.command-item.is
    c.take_step.ensures.left in
    let done = subst (λ (left : List Step). Tallied all left c.commands.refused c.commands.trees.items (state_of c.args.session.now)
    (state_of c.commands.session)) next c.commands.invariant.done in
    let logged = subst (λ (left : List Step). LogsSo all left c.args.session.now c.commands.session) next c.commands.invariant.logged in
    let did = c.in_ok-answered.ensures.answered in
    let tallied = tallied_more all more step c.commands.refused c.in_ok-answered.answered.refused c.commands.trees.items c.in_ok-answered.answered.trees
    (state_of c.args.session.now) (state_of c.commands.session) (state_of c.take_step.new.s) done did.state did.refused did.trees in
    record {
      done = subst (λ (n : ℕ). Tallied all more (c.commands.refused + n) c.push.new.self.items (state_of c.args.session.now) (state_of c.take_step.new.s))
          (sym c.from-refused.ensures)
          (subst (λ (ns : List ℕ). Tallied all more (c.commands.refused + from_bool c.in_ok-answered.answered.refused) ns (state_of c.args.session.now)
          (state_of c.take_step.new.s)) (sym c.in_ok-push.ensures.items) tallied);
      logged = logs_more all more step c.args.session.now c.commands.session c.take_step.new.s logged did.logged did.state;
      tail = c.take_step.ensures.answered.tail ∙ c.commands.invariant.tail;
      sound = c.take_step.ensures.sound;
      most = subst (λ (n : ℕ). c.commands.refused + n ≤ c.commands.command-index + 1) (sym c.from-refused.ensures)
          (refused_few c.commands.refused c.commands.command-index c.in_ok-answered.answered.refused c.commands.invariant.most);
    }

pub returns-clause-refused : goal.returns-clause-refused
returns-clause-refused c =
    let vs : List SecondValue = seconds_left c.commands.seconds.items in
    tallied_count (steps_of c.args.commands.now (seconds_left c.args.seconds.now.items)) (steps_of (drop c.commands.command-index c.args.commands.now) vs)
    c.commands.refused c.commands.trees.items (state_of c.args.session.now) (state_of c.commands.session) c.commands.invariant.done
    (none_left c.args.commands.now c.commands.command-index vs (drop_all c.commands.command-index c.args.commands.now c.commands-test.false))

pub returns-clause-trees : goal.returns-clause-trees
returns-clause-trees c =
    let vs : List SecondValue = seconds_left c.commands.seconds.items in
    tallied_trees (steps_of c.args.commands.now (seconds_left c.args.seconds.now.items)) (steps_of (drop c.commands.command-index c.args.commands.now) vs)
    c.commands.refused c.commands.trees.items (state_of c.args.session.now) (state_of c.commands.session) c.commands.invariant.done
    (none_left c.args.commands.now c.commands.command-index vs (drop_all c.commands.command-index c.args.commands.now c.commands-test.false))

pub returns-clause-state : goal.returns-clause-state
returns-clause-state c =
    let vs : List SecondValue = seconds_left c.commands.seconds.items in
    tallied_state (steps_of c.args.commands.now (seconds_left c.args.seconds.now.items)) (steps_of (drop c.commands.command-index c.args.commands.now) vs)
    c.commands.refused c.commands.trees.items (state_of c.args.session.now) (state_of c.commands.session) c.commands.invariant.done
    (none_left c.args.commands.now c.commands.command-index vs (drop_all c.commands.command-index c.args.commands.now c.commands-test.false))

pub returns-clause-logged : goal.returns-clause-logged
returns-clause-logged c =
    let vs : List SecondValue = seconds_left c.commands.seconds.items in
    logs_all (steps_of c.args.commands.now (seconds_left c.args.seconds.now.items)) (steps_of (drop c.commands.command-index c.args.commands.now) vs)
    c.args.session.now c.commands.session c.commands.invariant.logged
    (none_left c.args.commands.now c.commands.command-index vs (drop_all c.commands.command-index c.args.commands.now c.commands-test.false))

pub overflow_add-refused : goal.overflow_add-refused
overflow_add-refused c =
    let few = subst (λ (n : ℕ). c.commands.refused + n ≤ c.commands.command-index + 1) (sym c.from-refused.ensures)
    (refused_few c.commands.refused c.commands.command-index c.in_ok-answered.answered.refused c.commands.invariant.most) in
    let below = c.commands-test.true in
    search rules
