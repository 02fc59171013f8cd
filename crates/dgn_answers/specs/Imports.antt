-- What an import comes to in a state: trees of its second file are appended, or it is refused.
use Rattle.std.specs.Prelude.{ℕ, ◌+◌, Bool, true, false, List, length, codes, Option, Some, None}
use Rattle.dgn_drawing.specs.Values.{Displacement}
use Rattle.dgn_drawing.specs.Spelling.{spelling}
use Rattle.dgn_drawing.specs.Opening.{elements_of}
use Rattle.dgn_listing.specs.CauseTexts.{cause_text}
use Rattle.dgn_import.specs.declared.second_fault.SecondFault.{SecondFault}
use Rattle.dgn_import.specs.declared.second_fault.SecondFault.TheVariants as faults
use Rattle.dgn_import.specs.Seconds.{SecondValue}
use Rattle.dgn_import.specs.Gathering.{Gathering, Trees, Bad, Dimension, Refused, gathered}
use Rattle.dgn_session.specs.State.{State}
use Rattle.dgn_session.specs.Imported.{imported}
use Rattle.edit_ops.specs.Causes.{too_long}
use Rattle.edit_ops.specs.declared.causes.cause.Cause.{Cause}
use Rattle.edit_ops.specs.declared.causes.cause.Cause.TheVariants as causes
use Rattle.dgn_listing.specs.NumberedLines.{numbered}

-- the bytes of trees are appended, and how many trees they are; or nothing is, and this line says why
pub data Importing : Type 0 where
  Appends : List ℕ → ℕ → Importing
  Declines : List ℕ → Importing

-- the line that says why a second file doesn't open, and where
abbrev pub second_fault_line : SecondFault → List ℕ
second_fault_line faults.NotDesign = codes "refused import not-design at 0\n"
second_fault_line (faults.Cut at) = numbered (codes "refused import cut at ") at
second_fault_line (faults.Short at) = numbered (codes "refused import short at ") at
second_fault_line (faults.Attr at) = numbered (codes "refused import attributes at ") at

-- the line of the cause of a tree, whose number counts in the second file. It is one of the first three
abbrev pub tree_cause_line : Cause → List ℕ
tree_cause_line (causes.Floating m) = numbered (codes "refused import floating ") m
tree_cause_line (causes.Opaque m) = numbered (codes "refused import opaque ") m
tree_cause_line (causes.OffPlane m) = numbered (codes "refused import off-plane ") m
tree_cause_line other = cause_text other

-- trees are appended, unless the drawing would be too long with them
abbrev pub unless_long : Option Cause → List ℕ → ℕ → Importing
unless_long None b count = Appends b count
unless_long (Some cause) b count = Declines (cause_text cause)

-- what an import comes to in a state, by what is gathered from its second file
abbrev pub importing : State → Gathering → Importing
importing s (Trees b count) = unless_long (too_long (length (spelling s.top) + s.rest + length b)) b count
importing s (Bad fault) = Declines (second_fault_line fault)
importing s Dimension = Declines (codes "refused import dimension\n")
importing s (Refused cause) = Declines (tree_cause_line cause)

-- and by what the file comes to
abbrev pub importing_of : State → SecondValue → Option Displacement → Importing
importing_of s v by = importing s (gathered s.dim v by)

-- what an import says
abbrev pub import_text : Importing → List ℕ
import_text (Appends b count) = numbered (codes "ok ") count
import_text (Declines line) = line

-- whether it is refused
abbrev pub import_refused : Importing → Bool
import_refused (Appends b count) = false
import_refused (Declines line) = true

-- what it leaves: one that is refused leaves all as it was
abbrev pub import_left : Importing → State → State
import_left (Appends b count) s = imported (elements_of s.dim b) s
import_left (Declines line) s = s
