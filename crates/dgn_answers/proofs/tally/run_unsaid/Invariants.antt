use Rattle.std.proofs.Common.{◌≡◌, ◌≤◌, drop}
use Rattle.dgn_session.specs.State.{state_of}
use Rattle.std.specs.List.{AllByRecursion}
use Rattle.dgn_import.specs.Seconds.{IsOpened}
use Rattle.dgn_answers.specs.Steps.{steps_of}
use Rattle.dgn_import.specs.Seconds.{seconds_left}
use Rattle.dgn_answers.proofs.TallySteps.{Tallied}
use Rattle.dgn_answers.proofs.LogSteps.{LogsSo}
use Rattle.dgn_answers.proofs.tally.run_unsaid.Given as goal

abbrev pub invariant-commands : goal.invariant-commands
invariant-commands l = record {
  done : Tallied (steps_of l.commands (seconds_left l.fn.seconds.items)) (steps_of (drop l.command-index l.commands) (seconds_left l.seconds.items))
      l.refused l.trees.items (state_of l.fn.session) (state_of l.session);
  logged : LogsSo (steps_of l.commands (seconds_left l.fn.seconds.items)) (steps_of (drop l.command-index l.commands) (seconds_left l.seconds.items))
      l.fn.session l.session;
  tail : l.session.tail ≡ l.fn.session.tail;
  sound : AllByRecursion IsOpened l.seconds.items;
  most : l.refused ≤ l.command-index;
}
