-- What the answers of an import say.
use Rattle.std.specs.Prelude.{ℕ, ◌≡◌, true, Option, Result, Ok, Err}
use Rattle.edit_ops.specs.declared.causes.edit_fault.EditFault.{EditFault}
use Rattle.edit_ops.specs.declared.causes.edit_fault.EditFault.TheVariants as edit
use Rattle.dgn_import.specs.declared.gathered.Gathered.{Gathered}
use Rattle.dgn_import.specs.declared.import_fault.ImportFault.{ImportFault}
use Rattle.dgn_import.specs.declared.import_fault.ImportFault.TheVariants as faults
use Rattle.dgn_drawing.specs.Values.{Displacement}
use Rattle.dgn_import.specs.Seconds.{SecondValue, Drawing, Faulty}
use Rattle.dgn_import.specs.Gathering.{Gathering, Trees, Bad, Dimension, Refused, fits}

-- nothing is gathered, for what is told; want of memory says nothing of it
abbrev pub TellsFault : Gathering → ImportFault → Type 0
TellsFault found (faults.Bad fault) = found ≡ Bad fault
TellsFault found faults.Dimension = found ≡ Dimension
TellsFault found (faults.Refused cause) = found ≡ Refused cause
TellsFault found faults.Memory = Unit {0}

-- these trees are gathered, or nothing is, for what is told
abbrev pub TellsGathering : Gathering → Result Gathered ImportFault → Type 0
TellsGathering found (Ok g) = found ≡ Trees g.bytes g.trees
TellsGathering found (Err fault) = TellsFault found fault

-- what is asked before memory is taken isn't against it: the file opens, has the dimension, and the displacement, if one is
-- given, is given for its axes
abbrev pub IsOpenToGather : ℕ → SecondValue → Option Displacement → Type 0
IsOpenToGather dim (Drawing own body tail) by = fits dim own by ≡ true
IsOpenToGather dim (Faulty fault) by = ⊥

-- what is wrong with the copy of a tree is wrong with the import
abbrev pub fault_of_tree : EditFault → ImportFault
fault_of_tree (edit.Refused cause) = faults.Refused cause
fault_of_tree edit.Memory = faults.Memory
