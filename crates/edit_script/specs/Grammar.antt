-- The grammar of a line of a script: a comment or a line of blanks says nothing, and any other line goes by its first
-- word. A further command is a further case of `command_named`, beside a definition of its own.
use Rattle.std.specs.Prelude.{ℕ, ◌==◌, Bool, ◌||◌, if◌then◌else◌, List, [], length, slice_index, Option, Some, None, option_map}
use Rattle.std.specs.Option.{option_and_then}
use Rattle.dgn_drawing.specs.declared.command.Command.{Command}
use Rattle.dgn_drawing.specs.declared.command.Command.TheVariants as command
use Rattle.edit_script.specs.declared.command_name.CommandName.{CommandName}
use Rattle.edit_script.specs.declared.command_name.CommandName.TheVariants as names
use Rattle.edit_script.specs.declared.reading.Reading.{Reading}
use Rattle.edit_script.specs.declared.reading.Reading.TheVariants.{Nothing, Asks, Bad}
use Rattle.edit_script.specs.CommandNames.{name_of}
use Rattle.edit_script.specs.Words.{from_word, first_word, behind_word, words_of}
use Rattle.edit_script.specs.Levels.{mask_named}
use Rattle.edit_script.specs.Appends.{line_command, string_command, shape_command, text_command}
use Rattle.edit_script.specs.Imports.{import_command}
use Rattle.edit_script.specs.Edits.{one_element, color_command, move_command, copy_command, sym_command, delete_command}
use Rattle.edit_script.specs.Fences.{fence_command, select_command, fmove_command, fcopy_command, fsym_command, fdelete_command}

-- a command behind whose name no word stands
abbrev pub alone : Command → List (List ℕ) → Option Command
alone c [] = Some c
alone c _ = None

-- `levels all`, `levels none`, `levels R ..`, by its words behind `levels`
abbrev pub levels_command : List (List ℕ) → Option Command
levels_command words = option_map (λ mask. command.Levels (record { 0 = mask })) (mask_named words)

-- a line says its command, or is bad
abbrev pub asking : Option Command → Reading
asking (Some c) = Asks c
asking None = Bad

-- the command that a word begins, by the bytes behind the word
abbrev pub command_named : CommandName → List ℕ → Option Command
command_named names.Line rest = line_command (words_of rest)
command_named names.String rest = string_command (words_of rest)
command_named names.Shape rest = shape_command (words_of rest)
command_named names.Text rest = text_command rest
command_named names.Fence rest = fence_command (words_of rest)
command_named names.Import rest = import_command (words_of rest)
command_named names.Color rest = color_command (words_of rest)
command_named names.Move rest = move_command (words_of rest)
command_named names.Copy rest = copy_command (words_of rest)
command_named names.Sym rest = sym_command (words_of rest)
command_named names.Delete rest = delete_command (words_of rest)
command_named names.Undo rest = alone command.Undo (words_of rest)
command_named names.Levels rest = levels_command (words_of rest)
command_named names.Show rest = alone command.Show (words_of rest)
command_named names.Tree rest = option_map command.Tree (one_element (words_of rest))
command_named names.Elements rest = alone command.Elements (words_of rest)
command_named names.Refs rest = alone command.Refs (words_of rest)
command_named names.Links rest = option_map command.Links (one_element (words_of rest))
command_named names.Select rest = select_command (words_of rest)
command_named names.NoFence rest = alone command.NoFence (words_of rest)
command_named names.FenceMove rest = fmove_command (words_of rest)
command_named names.FenceCopy rest = fcopy_command (words_of rest)
command_named names.FenceSym rest = fsym_command (words_of rest)
command_named names.FenceDelete rest = fdelete_command (words_of rest)
command_named names.Audit rest = alone command.Audit (words_of rest)
command_named names.Fit rest = option_map command.Fit (one_element (words_of rest))

-- what a line says that begins with this word and goes on with these bytes
abbrev pub reading_of : List ℕ → List ℕ → Reading
reading_of word rest = asking (option_and_then (λ name. command_named name rest) (name_of word))

-- an empty line, or one of blanks alone
abbrev pub is_blank_line : List ℕ → Bool
is_blank_line line = length (from_word line) == 0

-- a line whose first byte that isn't a blank is `#`
abbrev pub is_comment : List ℕ → Bool
is_comment line = slice_index (from_word line) 0 == 35

-- what a line says
abbrev pub command_of : List ℕ → Reading
command_of line = if is_blank_line line || is_comment line then Nothing else reading_of (first_word line) (behind_word line)
