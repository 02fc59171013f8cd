-- What is gathered from a second drawing to stand behind a drawing of a dimension: the trees of some of its roots, as
-- they are or displaced; or why nothing is.
use Rattle.std.specs.Prelude.{ℕ, ◌==◌, ◌&&◌, ◌≡◌, not, Bool, true, false, if◌then◌else◌, List, [], ◌∷◌, length, filter, slice_get, Option, Some, None}
use Rattle.std.specs.List.{AllByRecursion}
use Rattle.std.specs.Option.{option_or}
use Rattle.dgn_layout.specs.Classes.{class_of, is_silent}
use Rattle.dgn_drawing.specs.Values.{Displacement}
use Rattle.dgn_drawing.specs.Element.{Element}
use Rattle.dgn_drawing.specs.Spelling.{spelling}
use Rattle.dgn_drawing.specs.WellFormed.{IsDimension, IsWellFormed}
use Rattle.dgn_drawing.specs.Rows.{row_of}
use Rattle.dgn_drawing.specs.Nesting.{Forest, NoTree, flat, forest, joined, BeginsFree}
use Rattle.dgn_drawing.specs.Numbering.{first_broken_of}
use Rattle.dgn_drawing.specs.Opening.{elements_of}
use Rattle.dgn_drawing.specs.Shown.{roots}
use Rattle.edit_ops.specs.declared.causes.cause.Cause.{Cause}
use Rattle.edit_ops.specs.Trees.{tree_at}
use Rattle.edit_ops.specs.Copying.{tree_copy, copy_cause}
use Rattle.dgn_import.specs.declared.second_fault.SecondFault.{SecondFault}
use Rattle.dgn_import.specs.Seconds.{SecondValue, Drawing, Faulty}

-- what is gathered: the bytes of trees and their number; or nothing, for the file's fault, for another dimension, or
-- for the cause of a tree, whose number counts in the second drawing
pub data Gathering : Type 0 where
  Trees : List ℕ → ℕ → Gathering
  Bad : SecondFault → Gathering
  Dimension : Gathering
  Refused : Cause → Gathering

-- an element is there, isn't silent, and isn't marked deleted
abbrev pub is_drawn : Option Element → Bool
is_drawn None = false
is_drawn (Some e) = not (is_silent (class_of e.kind)) && not e.deleted

-- the element is there, and the least broken number of it and what is below it isn't
abbrev pub is_unbroken : Option (Option ℕ) → Bool
is_unbroken (Some None) = true
is_unbroken other = false

-- whether the tree of root n is taken: it isn't element 0, isn't silent, isn't marked deleted, and its tree is sound
abbrev pub is_taken : List Element → ℕ → Bool
is_taken es n = not (n == 0) && (is_drawn (slice_get es n) && is_unbroken (first_broken_of row_of es n))

-- the roots whose trees are taken, in file order
abbrev pub taken : List Element → List ℕ
taken es = filter (is_taken es) (roots 0 (forest row_of es))

-- the tree of root n as it is imported: as it is, or displaced
abbrev pub import_tree : ℕ → List Element → Option Displacement → ℕ → Forest Element
import_tree dim es None n = tree_at n (forest row_of es)
import_tree dim es (Some by) n = tree_copy dim es by n

-- those of some roots, one behind the other
abbrev pub import_trees : ℕ → List Element → Option Displacement → List ℕ → Forest Element
import_trees dim es by [] = NoTree
import_trees dim es by (n ∷ ns) = joined (import_tree dim es by n) (import_trees dim es by ns)

-- what refuses it: nothing where it isn't displaced
abbrev pub import_cause : ℕ → List Element → Option Displacement → ℕ → Option Cause
import_cause dim es None n = None
import_cause dim es (Some by) n = copy_cause dim es by n

-- the first cause of the first of some roots that has one
abbrev pub cause_of_roots : ℕ → List Element → Option Displacement → List ℕ → Option Cause
cause_of_roots dim es by [] = None
cause_of_roots dim es by (n ∷ ns) = option_or (import_cause dim es by n) (cause_of_roots dim es by ns)

-- a drawing has the dimension, and the displacement, if one is given, is given for its axes
abbrev pub fits : ℕ → ℕ → Option Displacement → Bool
fits dim own None = own == dim
fits dim own (Some by) = own == dim && by.axes == dim

-- trees as their bytes and how many they are, unless a cause refuses them
abbrev pub gathering_unless : Option Cause → Forest Element → ℕ → Gathering
gathering_unless None trees count = Trees (spelling (flat trees)) count
gathering_unless (Some cause) trees count = Refused cause

-- those of the roots that are taken
abbrev pub gathered_trees : ℕ → List Element → Option Displacement → Gathering
gathered_trees dim es by = gathering_unless (cause_of_roots dim es by (taken es)) (import_trees dim es by (taken es)) (length (taken es))

-- what is gathered from the elements of a drawing of dimension `own`
abbrev pub gathered_in : ℕ → ℕ → List Element → Option Displacement → Gathering
gathered_in dim own es by = if fits dim own by then gathered_trees own es by else Dimension

-- what is gathered from a second drawing
abbrev pub gathered : ℕ → SecondValue → Option Displacement → Gathering
gathered dim (Drawing own body tail) by = gathered_in dim own (elements_of own body) by
gathered dim (Faulty fault) by = Bad fault

-- bytes are those of trees that can stand behind a drawing of the dimension: they spell well formed elements, of which
-- the first, if there is one, has no bit C
pub record AreTrees (dim : ℕ) (b : List ℕ) : Type 0 where
  pub elements : List Element
  pub axes : IsDimension dim
  pub each : AllByRecursion (IsWellFormed dim) elements
  pub text : b ≡ spelling elements
  pub free : BeginsFree row_of elements
