-- The commands of a fence: setting it, listing what it chooses, and editing what it chooses.
use Rattle.std.specs.Prelude.{ℕ, ◌==◌, if◌then◌else◌, List, [], ◌∷◌, codes, Option, Some, None, option_map}
use Rattle.std.specs.Str.{bytes_eq}
use Rattle.range_code.specs.Ranges.{on_axis}
use Rattle.plane_geom.specs.declared.pt.Pt.{Pt}
use Rattle.dgn_drawing.specs.declared.mode.Mode.{Mode}
use Rattle.dgn_drawing.specs.declared.fence_edit.FenceEdit.{FenceEdit}
use Rattle.dgn_drawing.specs.declared.command.Command.{Command}
use Rattle.dgn_drawing.specs.declared.command.Command.TheVariants as command
use Rattle.edit_script.specs.declared.points.PointGiven.{PointGiven}
use Rattle.edit_script.specs.Words.{each_named}
use Rattle.edit_script.specs.Points.{point_named}
use Rattle.edit_script.specs.Edits.{shift_named, look_named}

-- the corner of a fence that a point is, where it is given for two axes
abbrev pub corner_of : Option PointGiven → Option Pt
corner_of None = None
corner_of (Some p) = if p.axes == 2 then Some (record { x = on_axis p.at 0; y = on_axis p.at 1 }) else None

-- the corner that a word spells: `x,y` alone
abbrev pub corner_named : List ℕ → Option Pt
corner_named word = corner_of (point_named word)

-- `fence Q ..`, by its words behind `fence`, of which there is one at least
abbrev pub fence_command : List (List ℕ) → Option Command
fence_command [] = None
fence_command (word ∷ words) = option_map command.Fence (each_named corner_named (word ∷ words))

-- how a fence chooses
abbrev pub mode_named : List ℕ → Option Mode
mode_named word =
    if bytes_eq word (codes "inside") then Some Mode.Inside
    else if bytes_eq word (codes "overlap") then Some Mode.Overlap
    else if bytes_eq word (codes "void") then Some Mode.Void
    else None

-- `select MODE`, by its words behind `select`
abbrev pub select_command : List (List ℕ) → Option Command
select_command (mode ∷ []) = option_map command.Select (mode_named mode)
select_command _ = None

-- the command that makes this edit of what a fence chooses so
abbrev pub fenced : Option Mode → Option FenceEdit → Option Command
fenced None edit = None
fenced (Some mode) None = None
fenced (Some mode) (Some edit) = Some (command.Fenced mode edit)

-- `fmove MODE D D`, `fmove MODE D D D`, by its words behind `fmove`
abbrev pub fmove_command : List (List ℕ) → Option Command
fmove_command [] = None
fmove_command (mode ∷ words) = fenced (mode_named mode) (option_map FenceEdit.Move (shift_named words))

-- `fcopy MODE D D`, `fcopy MODE D D D`, by its words behind `fcopy`
abbrev pub fcopy_command : List (List ℕ) → Option Command
fcopy_command [] = None
fcopy_command (mode ∷ words) = fenced (mode_named mode) (option_map FenceEdit.Copy (shift_named words))

-- `fsym MODE C W S`, by its words behind `fsym`
abbrev pub fsym_command : List (List ℕ) → Option Command
fsym_command [] = None
fsym_command (mode ∷ words) = fenced (mode_named mode) (option_map FenceEdit.Sym (look_named words))

-- `fdelete MODE`, by its words behind `fdelete`
abbrev pub fdelete_command : List (List ℕ) → Option Command
fdelete_command (mode ∷ []) = fenced (mode_named mode) (Some FenceEdit.Delete)
fdelete_command _ = None
