-- The commands that append an element: `line`, `string`, `shape` and `text`.
use Rattle.std.specs.Prelude.{ℕ, zero, suc, ◌<◌, ◌≤◌, nat_le, ◌≤ℤ◌, ◌&&◌, if◌then◌else◌, ℤ, pos, List, ◌∷◌, length, drop, Option, Some, None, option_map}
use Rattle.dgn_drawing.specs.WellFormed.{IsBytes, IsCoordinate}
use Rattle.dgn_drawing.specs.declared.edit.Edit.TheVariants.{Append}
use Rattle.dgn_drawing.specs.declared.new_shape.NewShape.{NewShape}
use Rattle.dgn_drawing.specs.declared.new_shape.NewShape.TheVariants as shapes
use Rattle.dgn_drawing.specs.declared.command.Command.{Command}
use Rattle.dgn_drawing.specs.declared.command.Command.TheVariants as command
use Rattle.edit_script.specs.declared.appends.Pen.{Pen}
use Rattle.edit_script.specs.declared.appends.Lettering.{Lettering}
use Rattle.edit_script.specs.declared.points.PointGiven.{PointGiven}
use Rattle.edit_script.specs.declared.points.Path.{Path}
use Rattle.edit_script.specs.Numbers.{number_within}
use Rattle.edit_script.specs.Points.{point_named, path_named, IsGiven}
use Rattle.edit_script.specs.Words.{behind_word, words_of}

-- the level and the look of an element
abbrev pub pen_of : Option ℕ → Option ℕ → Option ℕ → Option ℕ → Option Pen
pen_of None c w s = None
pen_of (Some lv) None w s = None
pen_of (Some lv) (Some c) None s = None
pen_of (Some lv) (Some c) (Some w) None = None
pen_of (Some lv) (Some c) (Some w) (Some s) = Some (record { level = lv; symb = record { color = c; weight = w; style = s } })

-- `LV C W S`, the first four words
abbrev pub pen_named : List (List ℕ) → Option Pen
pen_named (lv ∷ c ∷ w ∷ s ∷ words) = pen_of (number_within 63 lv) (number_within 255 c) (number_within 31 w) (number_within 7 s)
pen_named _ = None

-- the command that appends an element of this shape
abbrev pub appending : Pen → ℕ → NewShape → Command
appending pen axes shape = command.Edit (Append (record { level = pen.level; symb = pen.symb; axes = axes; shape = shape }))

-- with this path
abbrev pub path_appending : (List (List ℤ) → NewShape) → Option Pen → Option Path → Option Command
path_appending shape None path = None
path_appending shape (Some pen) None = None
path_appending shape (Some pen) (Some path) = Some (appending pen path.axes (shape path.points))

-- `line LV C W S P P`, by its words behind `line`
abbrev pub line_command : List (List ℕ) → Option Command
line_command words = path_appending shapes.Line (pen_named words) (path_named 2 2 (drop 4 words))

-- `string LV C W S P P ..`
abbrev pub string_command : List (List ℕ) → Option Command
string_command words = path_appending shapes.Chain (pen_named words) (path_named 2 101 (drop 4 words))

-- `shape LV C W S P P P ..`
abbrev pub shape_command : List (List ℕ) → Option Command
shape_command words = path_appending shapes.Shape (pen_named words) (path_named 3 101 (drop 4 words))

-- a multiplier of a text's length or height
abbrev pub multiplier_named : List ℕ → Option ℤ
multiplier_named word = option_map pos (number_within 2147483647 word)

-- how the characters of a text stand, and where
abbrev pub lettering_of : Option ℕ → Option ℕ → Option ℤ → Option ℤ → Option PointGiven → Option Lettering
lettering_of None j length height p = None
lettering_of (Some f) None length height p = None
lettering_of (Some f) (Some j) None height p = None
lettering_of (Some f) (Some j) (Some length) None p = None
lettering_of (Some f) (Some j) (Some length) (Some height) None = None
lettering_of (Some f) (Some j) (Some length) (Some height) (Some p) = Some (record { font = f; just = j; length = length; height = height; origin = p })

-- `F J M M P`, the first five words
abbrev pub lettering_named : List (List ℕ) → Option Lettering
lettering_named (f ∷ j ∷ length ∷ height ∷ p ∷ words) =
    lettering_of (number_within 255 f) (number_within 255 j) (multiplier_named length) (multiplier_named height) (point_named p)
lettering_named _ = None

-- the characters of a text
abbrev pub chars_given : List ℕ → Option (List ℕ)
chars_given bytes = if nat_le 1 (length bytes) && nat_le (length bytes) 255 then Some bytes else None

-- what stands behind the first so many words of a line and the one blank that ends the last of them
abbrev pub behind_words : ℕ → List ℕ → List ℕ
behind_words zero line = line
behind_words (suc count) line = behind_words count (behind_word line)

-- the command that appends a text
abbrev pub text_appending : Option Pen → Option Lettering → Option (List ℕ) → Option Command
text_appending None t chars = None
text_appending (Some pen) None chars = None
text_appending (Some pen) (Some t) None = None
text_appending (Some pen) (Some t) (Some chars) = Some (appending pen t.origin.axes (shapes.Text t.font t.just t.length t.height t.origin.at chars))

-- `text LV C W S F J M M P CHARS`, by the bytes behind `text`, of which CHARS are those behind the ninth word
abbrev pub text_command : List ℕ → Option Command
text_command rest = text_appending (pen_named (words_of rest)) (lettering_named (drop 4 (words_of rest))) (chars_given (behind_words 9 rest))

-- a level and a look hold their values
pub record IsPen (pen : Pen) : Type 0 where
  pub level : pen.level < 64
  pub color : pen.symb.color < 256
  pub weight : pen.symb.weight < 32
  pub style : pen.symb.style < 8

-- a multiplier holds its value
pub record IsMultiplier (v : ℤ) : Type 0 where
  pub long : IsCoordinate v
  pub up : pos 0 ≤ℤ v

-- and so do the fields of a text
pub record IsLettering (t : Lettering) : Type 0 where
  pub font : t.font < 256
  pub just : t.just < 256
  pub length : IsMultiplier t.length
  pub height : IsMultiplier t.height
  pub origin : IsGiven t.origin

-- 1 to 255 bytes
pub record IsChars (chars : List ℕ) : Type 0 where
  pub some : 1 ≤ length chars
  pub few : length chars ≤ 255
  pub bytes : IsBytes chars
