-- What a file opens as, or its first fault, as plain functions of its bytes.
use Rattle.std.specs.Prelude.{ℕ, List, take, drop}
use Rattle.std.specs.declared.result.Result.{Result}
use Rattle.std.specs.declared.result.Result.TheVariants.{Ok, Err}
use Rattle.dgn_drawing.specs.Element.{Element}
use Rattle.dgn_drawing.specs.Opening.{Fault, dimension, elements_of, ending_of}

-- what a file opens as
pub record Opened : Type 0 where
  pub dim : ℕ
  pub elements : List Element
  pub tail : List ℕ

-- the file with its tail at place p
abbrev pub opened_at : List ℕ → ℕ → Opened
opened_at f p = record { dim = dimension f; elements = elements_of (dimension f) (take p f); tail = drop p f }

-- the file with its tail at the place, or the fault
abbrev pub opened_or : List ℕ → Result ℕ Fault → Result Opened Fault
opened_or f (Ok p) = Ok (opened_at f p)
opened_or f (Err fault) = Err fault

-- what the file opens as, or its fault
unfoldable pub opening : List ℕ → Result Opened Fault
opening f = opened_or f (ending_of f)
