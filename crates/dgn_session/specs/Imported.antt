-- An import in the session machine: what it leaves, and its entry.
use Rattle.std.specs.Prelude.{List, [], ◌∷◌, ◌++◌}
use Rattle.undo_log.specs.declared.entry.Entry.{Entry}
use Rattle.dgn_drawing.specs.Element.{Element}
use Rattle.dgn_session.specs.State.{State, with_stack, entry_with}

-- an import of these elements pushes the top with them behind it, also where there are none
abbrev pub imported : List Element → State → State
imported new s = with_stack (s.top ++ new) (s.top ∷ s.earlier) s

-- its entry has no patch, and says how many bytes the elements had
abbrev pub import_entry : List Element → Entry
import_entry es = entry_with es []
