-- What holds of all files: each opens in exactly one way and has no fault, or has exactly one fault and
-- doesn't open; and the function `opening` tells which.
use Rattle.std.specs.Prelude.{ℕ, ◌≡◌, ◌↔◌, List, ◌⊎◌}
use Rattle.std.specs.declared.result.Result.TheVariants.{Ok, Err}
use Rattle.dgn_drawing.specs.WellFormed.{IsBytes}
use Rattle.dgn_drawing.specs.Opening.{Opens, Fault, HasFault}
use Rattle.elem_index.specs.Opened.{Opened, opening}

-- the file opens as that
abbrev pub OpensAs : List ℕ → Opened → Type 0
OpensAs f o = Opens f o.dim o.elements o.tail

-- it opens, in no other way, and has no fault
pub record OpensAlone (f : List ℕ) : Type 0 where
  pub opened : Opened
  pub opens : OpensAs f opened
  pub only : (other : Opened) → OpensAs f other → other ≡ opened
  pub no_fault : (fault : Fault) → ¬ HasFault f fault

-- it has a fault, no other, and doesn't open
pub record FaultsAlone (f : List ℕ) : Type 0 where
  pub fault : Fault
  pub has : HasFault f fault
  pub only : (other : Fault) → HasFault f other → other ≡ fault
  pub not_open : (opened : Opened) → ¬ OpensAs f opened

-- each file opens or has one fault
abbrev pub OpensOrHasOneFault : Type 0
OpensOrHasOneFault = (f : List ℕ) → IsBytes f → OpensAlone f ⊎ FaultsAlone f

-- and `opening` gives what the file opens as, and its fault
abbrev pub OpeningIsFound : Type 0
OpeningIsFound = (f : List ℕ) (o : Opened) → IsBytes f → (opening f ≡ Ok o) ↔ OpensAs f o

abbrev pub FaultIsFound : Type 0
FaultIsFound = (f : List ℕ) (fault : Fault) → IsBytes f → (opening f ≡ Err fault) ↔ HasFault f fault
