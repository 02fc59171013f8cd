-- The number that stands for a status outside of the program.
use Rattle.std.specs.Prelude.{ℕ}
use Rattle.dgn_tool.specs.declared.status.Status.{Status}
use Rattle.dgn_tool.specs.declared.status.Status.TheVariants as statuses

-- from 0 in the order of the list; 9 isn't used
abbrev pub number_of : Status → ℕ
number_of statuses.Done = 0
number_of statuses.SomeRefused = 1
number_of statuses.Usage = 2
number_of statuses.BadScript = 3
number_of statuses.BadDesign = 4
number_of statuses.ReadFault = 5
number_of statuses.WriteFault = 6
number_of statuses.Memory = 7
number_of statuses.TooLong = 8
number_of statuses.BadPatch = 10
number_of statuses.PatchRefused = 11
