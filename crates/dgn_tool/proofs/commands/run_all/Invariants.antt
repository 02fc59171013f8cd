use Rattle.std.proofs.Common.{◌≡◌, ◌≤◌, drop}
use Rattle.std.specs.List.{AllByRecursion}
use Rattle.dgn_desk.specs.Seen.{seen}
use Rattle.dgn_session.specs.State.{state_of}
use Rattle.dgn_import.specs.Seconds.{IsOpened}
use Rattle.dgn_answers.specs.Steps.{steps_of}
use Rattle.dgn_import.specs.Seconds.{seconds_left}
use Rattle.dgn_tool.proofs.CommandsInTurn.{Ran}
use Rattle.dgn_tool.proofs.commands.run_all.Given as goal

abbrev pub invariant-commands : goal.invariant-commands
invariant-commands g l = record {
  ran : Ran (steps_of l.commands (seconds_left l.fn.seconds.items)) (steps_of (drop l.command-index l.commands) (seconds_left l.seconds.items)) l.refused
      (state_of l.fn.session) (state_of l.session) (seen g.D.Desk l.fn.desk) (seen g.D.Desk l.desk);
  tail : l.session.tail ≡ l.fn.session.tail;
  sound : AllByRecursion IsOpened l.seconds.items;
  most : l.refused ≤ l.command-index;
}
