-- What holds of every import, the contract of a function in `laws`: the trees that it takes of its second file stand behind
-- those of the state, or nothing changes.
use Rattle.std.specs.Prelude.{ℕ, ◌≡◌, ◌+◌, ◌<◌, ◌≤◌, true, false, List, ◌++◌, length, codes, Option, None, All, IfSome}
use Rattle.dgn_drawing.specs.Element.{Element}
use Rattle.dgn_drawing.specs.Spelling.{spelling}
use Rattle.dgn_drawing.specs.Rows.{row_of}
use Rattle.dgn_drawing.specs.Nesting.{Forest, flat, forest, joined}
use Rattle.dgn_drawing.specs.Opening.{Opens}
use Rattle.dgn_drawing.specs.Values.{Displacement, IsShift}
use Rattle.dgn_drawing.specs.WellFormed.{IsBytes}
use Rattle.dgn_import.specs.Seconds.{second_of}
use Rattle.dgn_import.specs.Gathering.{taken, import_trees, cause_of_roots}
use Rattle.dgn_session.specs.State.{State}
use Rattle.dgn_drawing.specs.declared.command.Command.{Command}
use Rattle.elem_index.specs.Opened.{Opened}
use Rattle.dgn_listing.specs.NumberedLines.{numbered}
use Rattle.dgn_answers.specs.Imports.{Importing, importing_of, import_refused, import_left, import_text}
use Rattle.dgn_answers.specs.Commands.{first_state}
use Rattle.dgn_answers.specs.Steps.{after_all}
use Rattle.dgn_tool.specs.Laws.{IsEditIn, steps_of_files}
use Rattle.dgn_drawing.specs.declared.limits.TheConstants.{MOST_DESIGN}

-- the trees that an import takes of a drawing, displaced where it says so
abbrev pub trees_taken : Opened → Option Displacement → Forest Element
trees_taken d by = import_trees d.dim d.elements by (taken d.elements)

-- these can stand behind a state: the drawing has the state's dimension, a displacement is given for its axes, nothing
-- refuses one of the trees, and the file keeps its limit with them
pub record CanFollow (s : State) (d : Opened) (by : Option Displacement) : Type 0 where
  pub dimension : d.dim ≡ s.dim
  pub axes : IfSome by (λ shift. shift.axes ≡ s.dim)
  pub no_cause : cause_of_roots d.dim d.elements by (taken d.elements) ≡ None
  pub fits : length (spelling s.top) + s.rest + length (spelling (flat (trees_taken d by))) ≤ MOST_DESIGN

-- the second file opens as such a drawing; behind the import these trees stand behind those of the state, and their bytes
-- behind all that were there; and it says how many they are
pub record TreesFollow (s : State) (g : List ℕ) (by : Option Displacement) (came : Importing) : Type 0 where
  pub drawing : Opened
  pub opens : Opens g drawing.dim drawing.elements drawing.tail
  pub can : CanFollow s drawing by
  pub trees : forest row_of (import_left came s).top ≡ joined (forest row_of s.top) (trees_taken drawing by)
  pub bytes : spelling (import_left came s).top ≡ spelling s.top ++ spelling (flat (trees_taken drawing by))
  pub said : import_text came ≡ numbered (codes "ok ") (length (taken drawing.elements))

-- so it is of each import of a second file that is accepted in the state
abbrev pub NestApartIn : State → Type 0
NestApartIn s =
    (g : List ℕ) (by : Option Displacement) → IsBytes g → IfSome by IsShift
    → import_refused (importing_of s (second_of g) by) ≡ false → TreesFollow s g by (importing_of s (second_of g) by)

-- and in each state with an element
abbrev pub ImportsNestApart : Type 0
ImportsNestApart = (s : State) → 0 < length s.top → NestApartIn s

-- as it is behind all commands of a script, with any second files
abbrev pub ImportsOfRunsNestApart : Type 0
ImportsOfRunsNestApart =
    (f : List ℕ) (d : Opened) (cs : List Command) (files : List (List ℕ))
    → Opens f d.dim d.elements d.tail → All IsEditIn cs → All IsBytes files → NestApartIn (after_all (steps_of_files cs files) (first_state d))

-- nothing changes, and the second file opens as no drawing whose trees can stand behind the state
pub record NothingFollows (s : State) (g : List ℕ) (by : Option Displacement) (came : Importing) : Type 0 where
  pub same : import_left came s ≡ s
  pub cannot : (d : Opened) → Opens g d.dim d.elements d.tail → ¬ CanFollow s d by

-- so it is of each import that is refused
abbrev pub RefusedImportsChangeNothing : Type 0
RefusedImportsChangeNothing =
    (s : State) (g : List ℕ) (by : Option Displacement) → IsBytes g
    → import_refused (importing_of s (second_of g) by) ≡ true → NothingFollows s g by (importing_of s (second_of g) by)
