-- The commands that edit one element: `color`, `sym`, `move`, `copy` and `delete`; and the look and the
-- displacement that further commands give too.
use Rattle.std.specs.Prelude.{ℕ, if◌then◌else◌, ℤ, pos, List, [], ◌∷◌, codes, Option, Some, None, option_map}
use Rattle.std.specs.Str.{bytes_eq}
use Rattle.dgn_drawing.specs.Values.{Displacement, LookChange}
use Rattle.dgn_drawing.specs.declared.edit.Edit.TheVariants.{Move, Copy, Sym, Delete}
use Rattle.dgn_drawing.specs.declared.command.Command.{Command}
use Rattle.dgn_drawing.specs.declared.command.Command.TheVariants as command
use Rattle.edit_script.specs.Numbers.{number_within, signed_within}

-- the number of an element
abbrev pub element_named : List ℕ → Option ℕ
element_named word = number_within 4294967295 word

-- the command that gives this element this look
abbrev pub sym_of : Option ℕ → Option LookChange → Option Command
sym_of None look = None
sym_of (Some n) None = None
sym_of (Some n) (Some look) = Some (command.Edit (Sym n look))

-- the change of the colour alone
abbrev pub color_change : ℕ → LookChange
color_change c = record { color = Some c; weight = None; style = None }

-- `color N C`, by its words behind `color`
abbrev pub color_command : List (List ℕ) → Option Command
color_command (n ∷ c ∷ []) = sym_of (element_named n) (option_map color_change (number_within 255 c))
color_command _ = None

-- what a word of `sym` gives: with `-` nothing, and otherwise a number, of at most so much
abbrev pub given_within : ℕ → List ℕ → Option (Option ℕ)
given_within most word = if bytes_eq word (codes "-") then Some None else option_map Some (number_within most word)

-- the change of the look that gives this colour, this weight and this style
abbrev pub look_of : Option (Option ℕ) → Option (Option ℕ) → Option (Option ℕ) → Option LookChange
look_of None w s = None
look_of (Some c) None s = None
look_of (Some c) (Some w) None = None
look_of (Some c) (Some w) (Some s) = Some (record { color = c; weight = w; style = s })

-- `C W S`
abbrev pub look_named : List (List ℕ) → Option LookChange
look_named (c ∷ w ∷ s ∷ []) = look_of (given_within 255 c) (given_within 31 w) (given_within 7 s)
look_named _ = None

-- `sym N C W S`, by its words behind `sym`
abbrev pub sym_command : List (List ℕ) → Option Command
sym_command [] = None
sym_command (n ∷ words) = sym_of (element_named n) (look_named words)

-- how far a word says to go along an axis
abbrev pub distance_named : List ℕ → Option ℤ
distance_named word = signed_within 4294967295 word

-- the displacement that is given for so many axes and goes this far along x, y and z
abbrev pub shift_of : ℕ → Option ℤ → Option ℤ → Option ℤ → Option Displacement
shift_of axes None y z = None
shift_of axes (Some x) None z = None
shift_of axes (Some x) (Some y) None = None
shift_of axes (Some x) (Some y) (Some z) = Some (record { axes = axes; by = x ∷ y ∷ z ∷ [] })

-- `D D`, which doesn't go along z, or `D D D`
abbrev pub shift_named : List (List ℕ) → Option Displacement
shift_named (x ∷ y ∷ []) = shift_of 2 (distance_named x) (distance_named y) (Some (pos 0))
shift_named (x ∷ y ∷ z ∷ []) = shift_of 3 (distance_named x) (distance_named y) (distance_named z)
shift_named _ = None

-- the command that moves this element this far
abbrev pub move_of : Option ℕ → Option Displacement → Option Command
move_of None by = None
move_of (Some n) None = None
move_of (Some n) (Some by) = Some (command.Edit (Move n by))

-- `move N D D`, `move N D D D`, by its words behind `move`
abbrev pub move_command : List (List ℕ) → Option Command
move_command [] = None
move_command (n ∷ words) = move_of (element_named n) (shift_named words)

-- the command that copies this element this far
abbrev pub copy_of : Option ℕ → Option Displacement → Option Command
copy_of None by = None
copy_of (Some n) None = None
copy_of (Some n) (Some by) = Some (command.Edit (Copy n by))

-- `copy N D D`, `copy N D D D`, by its words behind `copy`
abbrev pub copy_command : List (List ℕ) → Option Command
copy_command [] = None
copy_command (n ∷ words) = copy_of (element_named n) (shift_named words)

-- N alone
abbrev pub one_element : List (List ℕ) → Option ℕ
one_element (n ∷ []) = element_named n
one_element _ = None

-- `delete N`, by its words behind `delete`
abbrev pub delete_command : List (List ℕ) → Option Command
delete_command words = option_map (λ n. command.Edit (Delete n)) (one_element words)
