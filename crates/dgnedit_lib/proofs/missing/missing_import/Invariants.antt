use Rattle.std.proofs.Common.{◌≡◌, drop}
use Rattle.dgn_tool.specs.SecondFiles.{names_in}
use Rattle.dgnedit_lib.specs.Missing.{first_absent}
use Rattle.dgnedit_lib.proofs.missing.missing_import.Given as goal

-- the first of the commands that are left is the first of all
abbrev pub invariant-commands : goal.invariant-commands
invariant-commands l =
    first_absent l.desk.content.files (names_in l.commands) ≡ first_absent l.desk.content.files (names_in (drop l.command-index l.commands))
