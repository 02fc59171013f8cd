-- What holds of all that is gathered.
use Rattle.std.specs.Prelude.{ℕ, ◌≡◌, ◌<◌, List, ◌++◌, length, Option, IfSome}
use Rattle.std.specs.List.{AllByRecursion}
use Rattle.dgn_drawing.specs.Values.{Displacement, IsShift}
use Rattle.dgn_drawing.specs.Element.{Element}
use Rattle.dgn_drawing.specs.Spelling.{spelling}
use Rattle.dgn_drawing.specs.WellFormed.{IsWellFormed}
use Rattle.dgn_drawing.specs.Rows.{row_of}
use Rattle.dgn_drawing.specs.Nesting.{flat, forest, joined, BeginsFree}
use Rattle.dgn_drawing.specs.Opening.{Opens}
use Rattle.edit_ops.specs.declared.causes.cause.Cause.{Cause}
use Rattle.edit_ops.specs.declared.causes.cause.Cause.TheVariants as causes
use Rattle.dgn_import.specs.Gathering.{Trees, Refused, gathered_in, taken, import_trees}

-- a cause that the displacement of a tree can have
abbrev pub IsOfATree : Cause → Type 0
IsOfATree (causes.Floating m) = Unit {0}
IsOfATree (causes.Opaque m) = Unit {0}
IsOfATree (causes.OffPlane m) = Unit {0}
IsOfATree other = ⊥

-- only such a cause refuses an import
abbrev pub TreesAloneRefuse : Type 0
TreesAloneRefuse = (dim own : ℕ) (es : List Element) (by : Option Displacement) (c : Cause) → gathered_in dim own es by ≡ Refused c → IsOfATree c

-- the elements of trees that are gathered: their bytes are these, they are well formed and begin without bit C, and
-- behind a drawing they nest as these trees
pub record NestApart (dim : ℕ) (es : List Element) (by : Option Displacement) (b : List ℕ) (count : ℕ) : Type 0 where
  pub text : b ≡ spelling (flat (import_trees dim es by (taken es)))
  pub each : AllByRecursion (IsWellFormed dim) (flat (import_trees dim es by (taken es)))
  pub free : BeginsFree row_of (flat (import_trees dim es by (taken es)))
  pub counted : count ≡ length (taken es)
  pub apart : (drawing : List Element) → 0 < length drawing
      → forest row_of (drawing ++ flat (import_trees dim es by (taken es))) ≡ joined (forest row_of drawing) (import_trees dim es by (taken es))

-- so it is for each file that opens from which trees are gathered
abbrev pub GatheredTreesNestApart : Type 0
GatheredTreesNestApart =
    (f : List ℕ) (dim own : ℕ) (es : List Element) (t : List ℕ) (by : Option Displacement) (b : List ℕ) (count : ℕ)
    → Opens f own es t → IfSome by IsShift → gathered_in dim own es by ≡ Trees b count → NestApart dim es by b count
