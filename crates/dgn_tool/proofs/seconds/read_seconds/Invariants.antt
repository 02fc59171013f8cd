use Rattle.std.proofs.Common.{List, Result, drop, map}
use Rattle.std.specs.List.{AllByRecursion}
use Rattle.dgn_desk.specs.Seen.{Seen, seen}
use Rattle.dgn_import.specs.Seconds.{SecondValue, value_of, IsOpened}
use Rattle.dgn_tool.specs.Ends.{ComesTo}
use Rattle.dgn_tool.specs.Inputs.{seconds_behind, seconds_in}
use Rattle.dgn_tool.specs.SecondFiles.{names_in}
use Rattle.dgn_tool.specs.declared.end.End.{End}
use Rattle.dgn_tool.proofs.seconds.read_seconds.Given as goal

-- what reading the files of the commands that are left comes to, reading all comes to
abbrev pub invariant-commands : goal.invariant-commands
invariant-commands g l = record {
  read : (result : Result (List SecondValue) End) (new : Seen)
      → ComesTo (λ files. seconds_behind files (map value_of l.seconds.items) (names_in (drop l.command-index l.commands))) result (seen g.D.Desk l.desk) new
      → ComesTo (λ files. seconds_in files l.commands) result (seen g.D.Desk l.fn.desk) new;
  sound : AllByRecursion IsOpened l.seconds.items;
}
