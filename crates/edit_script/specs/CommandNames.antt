-- The words that begin a command. A further command is a further entry of this list, and a case of `command_named`.
use Rattle.std.specs.Prelude.{ℕ, if◌then◌else◌, List, [], ◌∷◌, codes, Option, Some, None}
use Rattle.std.specs.Str.{bytes_eq}
use Rattle.edit_script.specs.declared.command_name.CommandName.{CommandName}
use Rattle.edit_script.specs.declared.command_name.CommandName.TheVariants as names

-- each of these words, and the command that it begins
abbrev pub command_words : List (List ℕ × CommandName)
command_words =
    (codes "line", names.Line)
    ∷ (codes "string", names.String)
    ∷ (codes "shape", names.Shape)
    ∷ (codes "text", names.Text)
    ∷ (codes "fence", names.Fence)
    ∷ (codes "import", names.Import)
    ∷ (codes "color", names.Color)
    ∷ (codes "move", names.Move)
    ∷ (codes "copy", names.Copy)
    ∷ (codes "sym", names.Sym)
    ∷ (codes "delete", names.Delete)
    ∷ (codes "undo", names.Undo)
    ∷ (codes "levels", names.Levels)
    ∷ (codes "show", names.Show)
    ∷ (codes "tree", names.Tree)
    ∷ (codes "elements", names.Elements)
    ∷ (codes "refs", names.Refs)
    ∷ (codes "links", names.Links)
    ∷ (codes "select", names.Select)
    ∷ (codes "nofence", names.NoFence)
    ∷ (codes "fmove", names.FenceMove)
    ∷ (codes "fcopy", names.FenceCopy)
    ∷ (codes "fsym", names.FenceSym)
    ∷ (codes "fdelete", names.FenceDelete)
    ∷ (codes "audit", names.Audit)
    ∷ (codes "fit", names.Fit)
    ∷ []

-- the command beside a word in a list
abbrev pub name_in : List (List ℕ × CommandName) → List ℕ → Option CommandName
name_in [] word = None
name_in (entry ∷ entries) word = if bytes_eq word entry.0 then Some entry.1 else name_in entries word

-- the command that a word begins
abbrev pub name_of : List ℕ → Option CommandName
name_of word = name_in command_words word
