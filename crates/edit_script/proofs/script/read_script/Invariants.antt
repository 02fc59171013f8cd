use Rattle.std.proofs.Common.{◌≡◌, ◌≤◌, ◌<◌, ◌+◌, ◌++◌, List, Result, Ok, Err, length}
use Rattle.dgn_drawing.specs.declared.command.Command.{Command}
use Rattle.edit_script.specs.declared.fault.ScriptFault.{ScriptFault}
use Rattle.edit_script.specs.Lines.{lines_of}
use Rattle.edit_script.specs.Script.{commands_from, commands_of}
use Rattle.edit_script.proofs.script.read_script.Given as goal

-- commands that were read before, and the reading of the rest
abbrev pub behind : List Command → Result (List Command) ScriptFault → Result (List Command) ScriptFault
behind front (Ok rest) = Ok (front ++ rest)
behind front (Err e) = Err e

abbrev pub invariant-lines : goal.invariant-lines
invariant-lines l = record {
  reads : behind l.commands.items (commands_from l.number l.imports (lines_of l.rest)) ≡ commands_of l.bytes;
  fits : l.number + length l.rest ≤ length l.bytes + 1;
  few : l.imports < l.number;
}

abbrev pub decreases-lines : goal.decreases-lines
decreases-lines l = length l.rest
