-- What a second file comes to: a drawing that opens, as its dimension and the bytes of its body and of its tail, or the
-- fault of the file.
use Rattle.std.specs.Prelude.{ℕ, ◌≡◌, List, ◌++◌, map, reverse}
use Rattle.std.specs.declared.result.Result.{Result}
use Rattle.std.specs.declared.result.Result.TheVariants.{Ok, Err}
use Rattle.dgn_drawing.specs.Spelling.{spelling}
use Rattle.dgn_drawing.specs.Rows.{row_of}
use Rattle.dgn_drawing.specs.Opening.{Fault, NotDesign, Cut, Short, Attr, HasFault}
use Rattle.elem_index.specs.Opened.{Opened, opening}
use Rattle.elem_index.specs.Design.{elements, IsWhole}
use Rattle.dgn_import.specs.declared.second.Second.{Second}
use Rattle.dgn_import.specs.declared.second.Second.TheVariants as seconds
use Rattle.dgn_import.specs.declared.second_fault.SecondFault.{SecondFault}
use Rattle.dgn_import.specs.declared.second_fault.SecondFault.TheVariants as faults

-- the value of a second drawing: dimension, body and tail, or the fault
pub data SecondValue : Type 0 where
  Drawing : ℕ → List ℕ → List ℕ → SecondValue
  Faulty : SecondFault → SecondValue

-- a fault, as it is told
abbrev pub second_fault : Fault → SecondFault
second_fault NotDesign = faults.NotDesign
second_fault (Cut at) = faults.Cut at
second_fault (Short at) = faults.Short at
second_fault (Attr at) = faults.Attr at

-- what a file opens as, or its fault
abbrev pub as_second : Result Opened Fault → SecondValue
as_second (Ok o) = Drawing o.dim (spelling o.elements) o.tail
as_second (Err fault) = Faulty (second_fault fault)

-- what a second file comes to
abbrev pub second_of : List ℕ → SecondValue
second_of f = as_second (opening f)

-- what a contract sees of a second drawing
abbrev pub value_of : Second → SecondValue
value_of (seconds.Good d t) = Drawing d.dim d.body.items d.tail.items
value_of (seconds.Bad fault) = Faulty fault

-- what the second files come to that are left, the next of which stands last
abbrev pub seconds_left : List Second → List SecondValue
seconds_left seconds = map value_of (reverse seconds)

-- its design is whole, and the nesting is that of its elements
abbrev pub IsOpened : Second → Type 0
IsOpened (seconds.Good d t) = IsWhole d × (t.rows ≡ map row_of (elements d))
IsOpened (seconds.Bad fault) = Unit {0}

-- body and tail are together the file
abbrev pub IsTextOf : List ℕ → SecondValue → Type 0
IsTextOf f (Drawing dim body tail) = body ++ tail ≡ f
IsTextOf f (Faulty fault) = Unit {0}

-- the file has the fault that is told
abbrev pub HasToldFault : List ℕ → SecondValue → Type 0
HasToldFault f (Drawing dim body tail) = Unit {0}
HasToldFault f (Faulty faults.NotDesign) = HasFault f NotDesign
HasToldFault f (Faulty (faults.Cut at)) = HasFault f (Cut at)
HasToldFault f (Faulty (faults.Short at)) = HasFault f (Short at)
HasToldFault f (Faulty (faults.Attr at)) = HasFault f (Attr at)
