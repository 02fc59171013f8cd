-- What holds of every script, by the commands that it reads to.
use Rattle.std.specs.Prelude.{ℕ, ◌≡◌, List, All, Ok}
use Rattle.dgn_drawing.specs.Opening.{Opens}
use Rattle.dgn_drawing.specs.WellFormed.{IsBytes}
use Rattle.dgn_drawing.specs.declared.command.Command.{Command}
use Rattle.edit_script.specs.Script.{commands_of}
use Rattle.elem_index.specs.Opened.{Opened}
use Rattle.dgn_answers.specs.Commands.{first_state}
use Rattle.dgn_tool.specs.Laws.{IsEditIn, steps_of_files, IsEditedFile}

-- the commands that a script of bytes reads to hold it
abbrev pub ScriptsHoldEdits : Type 0
ScriptsHoldEdits = (text : List ℕ) (cs : List Command) → IsBytes text → commands_of text ≡ Ok cs → All IsEditIn cs

-- so it is with what any script of bytes reads to
abbrev pub UntouchedByScripts : Type 0
UntouchedByScripts =
    (f : List ℕ) (d : Opened) (text : List ℕ) (cs : List Command) (files : List (List ℕ))
    → Opens f d.dim d.elements d.tail → IsBytes text → commands_of text ≡ Ok cs → All IsBytes files
    → IsEditedFile f (first_state d) d.tail (steps_of_files cs files)
