-- The commands that a script reads to hold what their types keep.
use Rattle.std.proofs.Common.{ℕ, zero, suc, ◌+◌, ◌-◌, ◌<◌, ◌==◌, ◌&&◌, ◌||◌, Bool, List, [], ◌∷◌, length, take, drop, nat_le, slice_index, Option, Some}
use Rattle.std.proofs.Common.{None, IfSome, option_map, Result, Ok, Err, IfOk, subst, ℤ}
use Rattle.std.specs.Prelude.{All}
use Rattle.std.specs.List.{slice_split, onto_first, position_or_len}
use Rattle.std.specs.Option.{option_and_then}
use Rattle.std.proofs.lemmas.Bool.{cond_both}
use Rattle.std.proofs.lemmas.Option.{IfSome_then}
use Rattle.std.proofs.lemmas.List.Elements.{All-nil, All-cons, All-head, All-tail, All-take, All-drop, All-weaker, All-map}
use Rattle.dgn_drawing.specs.declared.edit.Edit.TheVariants as edit
use Rattle.dgn_drawing.specs.declared.fence_edit.FenceEdit.{FenceEdit}
use Rattle.dgn_drawing.specs.declared.fence_edit.FenceEdit.TheVariants as fence
use Rattle.dgn_drawing.specs.declared.mode.Mode.{Mode}
use Rattle.dgn_drawing.specs.declared.new_shape.NewShape.{NewShape}
use Rattle.dgn_drawing.specs.declared.new_shape.NewShape.TheVariants as shapes
use Rattle.dgn_drawing.specs.Values.{Displacement, LookChange, IsShift, IsLook}
use Rattle.dgn_drawing.specs.WellFormed.{IsBytes}
use Rattle.dgn_drawing.specs.NewElements.{ArePoints, IsShapeFor}
use Rattle.edit_ops.specs.Fenced.{IsFenceEdit}
use Rattle.dgn_drawing.specs.declared.command.Command.{Command}
use Rattle.dgn_drawing.specs.declared.command.Command.TheVariants as command
use Rattle.edit_script.specs.declared.command_name.CommandName.{CommandName}
use Rattle.edit_script.specs.declared.command_name.CommandName.TheVariants as names
use Rattle.edit_script.specs.declared.fault.ScriptFault.{ScriptFault}
use Rattle.edit_script.specs.declared.reading.Reading.{Reading}
use Rattle.edit_script.specs.declared.reading.Reading.TheVariants.{Nothing, Asks, Bad}
use Rattle.edit_script.specs.declared.appends.Pen.{Pen}
use Rattle.edit_script.specs.declared.appends.Lettering.{Lettering}
use Rattle.edit_script.specs.declared.points.Path.{Path}
use Rattle.edit_script.specs.Lines.{ended, without_return, lines_of}
use Rattle.edit_script.specs.Numbers.{number_within}
use Rattle.edit_script.specs.Words.{is_blank, from_word, first_word, behind_word, words_of, each_named}
use Rattle.edit_script.specs.Levels.{mask_named}
use Rattle.edit_script.specs.Points.{path_named, IsPath}
use Rattle.edit_script.specs.Appends.{pen_named, path_appending, line_command, string_command, shape_command, lettering_named, chars_given, behind_words}
use Rattle.edit_script.specs.Appends.{text_appending, text_command, IsPen, IsLettering, IsChars}
use Rattle.edit_script.specs.Edits.{element_named, sym_of, color_change, color_command, look_named, sym_command, shift_named, move_of, move_command}
use Rattle.edit_script.specs.Edits.{copy_of, copy_command, one_element, delete_command}
use Rattle.edit_script.specs.Fences.{corner_named, fence_command, mode_named, select_command, fenced, fmove_command, fcopy_command, fsym_command}
use Rattle.edit_script.specs.Fences.{fdelete_command}
use Rattle.edit_script.specs.Imports.{is_name, given_shift, import_command, is_import, limited, imports_with}
use Rattle.edit_script.specs.CommandNames.{name_of}
use Rattle.edit_script.specs.Grammar.{alone, asking, command_named, reading_of, is_blank_line, is_comment, command_of}
use Rattle.edit_script.specs.Script.{with_line, commands_from}
use Rattle.dgn_tool.specs.Laws.{IsEditIn}
use Rattle.dgn_tool.specs.ScriptLaws.{ScriptsHoldEdits, UntouchedByScripts}
use Rattle.dgn_tool.proofs.UntouchedBytes.{untouched}
use Rattle.dgn_tool.proofs.NamedValues.{of_some, number_below, shift_holds, given_shift_holds, look_holds, pen_holds, path_holds, lettering_holds, chars_hold}

-- the lines of bytes are bytes
onto_bytes : (b : ℕ) (parts : List (List ℕ)) → b < 256 → All IsBytes parts → All IsBytes (onto_first b parts)
onto_bytes b [] one all = All-cons IsBytes (b ∷ []) [] (All-cons (λ x. x < 256) b [] one (All-nil (λ x. x < 256))) all
onto_bytes b (part ∷ parts) one all =
    All-cons IsBytes (b ∷ part) parts (All-cons (λ x. x < 256) b part one (All-head IsBytes part parts all)) (All-tail IsBytes part parts all)

parts_bytes : (p : ℕ → Bool) (bytes : List ℕ) → IsBytes bytes → All IsBytes (slice_split p bytes)
parts_bytes p [] are = All-cons IsBytes [] [] are (All-nil IsBytes)
parts_bytes p (b ∷ bytes) are =
    let rest = parts_bytes p bytes (All-tail (λ x. x < 256) b bytes are) in
    cond_both (p b) ([] ∷ slice_split p bytes) (onto_first b (slice_split p bytes)) (All IsBytes)
    (λ passes. All-cons IsBytes [] (slice_split p bytes) (All-nil (λ x. x < 256)) rest)
    (λ fails. onto_bytes b (slice_split p bytes) (All-head (λ x. x < 256) b bytes are) rest)

ended_bytes : (parts : List (List ℕ)) → All IsBytes parts → All IsBytes (ended parts)
ended_bytes [] all = all
ended_bytes (x ∷ []) all = cond_both (length x == 0) [] (x ∷ []) (All IsBytes) (λ passes. All-nil IsBytes) (λ fails. all)
ended_bytes (x ∷ y ∷ ys) all = All-cons IsBytes x (ended (y ∷ ys)) (All-head IsBytes x (y ∷ ys) all) (ended_bytes (y ∷ ys) (All-tail IsBytes x (y ∷ ys) all))

line_bytes : (line : List ℕ) → IsBytes line → IsBytes (without_return line)
line_bytes line are =
    cond_both (slice_index line (length line - 1) == 13) (take (length line - 1) line) line IsBytes
    (λ passes. All-take (λ x. x < 256) (length line - 1) line are) (λ fails. are)

lines_bytes : (text : List ℕ) → IsBytes text → All IsBytes (lines_of text)
lines_bytes text are =
    let parts : List (List ℕ) = ended (slice_split (λ b. b == 10) text) in
    All-map IsBytes without_return parts
    (All-weaker IsBytes (λ line. IsBytes (without_return line)) line_bytes parts
    (ended_bytes (slice_split (λ b. b == 10) text) (parts_bytes (λ b. b == 10) text are)))

-- and so is what stands behind the words of a line
from_bytes : (line : List ℕ) → IsBytes line → IsBytes (from_word line)
from_bytes [] are = are
from_bytes (b ∷ bs) are =
    cond_both (is_blank b) (from_word bs) (b ∷ bs) IsBytes (λ passes. from_bytes bs (All-tail (λ x. x < 256) b bs are)) (λ fails. are)

behind_bytes : (line : List ℕ) → IsBytes line → IsBytes (behind_word line)
behind_bytes line are = All-drop (λ x. x < 256) (position_or_len is_blank (from_word line) + 1) (from_word line) (from_bytes line are)

behind_all_bytes : (count : ℕ) (line : List ℕ) → IsBytes line → IsBytes (behind_words count line)
behind_all_bytes zero line are = are
behind_all_bytes (suc count) line are = behind_all_bytes count (behind_word line) (behind_bytes line are)

-- what words say: a command that holds what its type keeps, or none
abbrev HoldsEdit : Option Command → Type 0
HoldsEdit o = IfSome o IsEditIn

-- a command, whatever its values are
plain : {X : Type 0} (f : X → Command) (o : Option X) → ((x : X) → IsEditIn (f x)) → HoldsEdit (option_map f o)
plain f None h = tt
plain f (Some x) h = h x

alone_holds : (c : Command) (words : List (List ℕ)) → IsEditIn c → HoldsEdit (alone c words)
alone_holds c [] h = h
alone_holds c (word ∷ words) h = tt

-- the commands that append an element
path_so : (shape : List (List ℤ) → NewShape) (least most : ℕ) (pen : Option Pen) (path : Option Path)
    → ((axes : ℕ) (points : List (List ℤ)) → ArePoints axes least most points → IsShapeFor axes (shape points)) → IfSome pen IsPen
    → IfSome path (IsPath least most) → HoldsEdit (path_appending shape pen path)
path_so shape least most None path fits h k = tt
path_so shape least most (Some pen) None fits h k = tt
path_so shape least most (Some pen) (Some path) fits h k = record {
  level = h.level;
  color = h.color;
  weight = h.weight;
  style = h.style;
  axes = k.axes;
  shape = fits path.axes path.points k.points;
}

text_so : (pen : Option Pen) (t : Option Lettering) (chars : Option (List ℕ)) → IfSome pen IsPen → IfSome t IsLettering → IfSome chars IsChars
    → HoldsEdit (text_appending pen t chars)
text_so None t chars h k l = tt
text_so (Some pen) None chars h k l = tt
text_so (Some pen) (Some t) None h k l = tt
text_so (Some pen) (Some t) (Some chars) h k l = record {
  level = h.level;
  color = h.color;
  weight = h.weight;
  style = h.style;
  axes = k.origin.axes;
  shape = record {
    font_byte = k.font;
    just_byte = k.just;
    length_long = k.length.long;
    length_up = k.length.up;
    height_long = k.height.long;
    height_up = k.height.up;
    point = k.origin.point;
    some = l.some;
    few = l.few;
    bytes = l.bytes;
  };
}

line_holds : (words : List (List ℕ)) → HoldsEdit (line_command words)
line_holds words = path_so shapes.Line 2 2 (pen_named words) (path_named 2 2 (drop 4 words)) (λ axes points are. are) (pen_holds words)
    (path_holds 2 2 (drop 4 words))

string_holds : (words : List (List ℕ)) → HoldsEdit (string_command words)
string_holds words = path_so shapes.Chain 2 101 (pen_named words) (path_named 2 101 (drop 4 words)) (λ axes points are. are) (pen_holds words)
    (path_holds 2 101 (drop 4 words))

shape_holds : (words : List (List ℕ)) → HoldsEdit (shape_command words)
shape_holds words = path_so shapes.Shape 3 101 (pen_named words) (path_named 3 101 (drop 4 words)) (λ axes points are. are) (pen_holds words)
    (path_holds 3 101 (drop 4 words))

text_holds : (rest : List ℕ) → IsBytes rest → HoldsEdit (text_command rest)
text_holds rest are =
    text_so (pen_named (words_of rest)) (lettering_named (drop 4 (words_of rest))) (chars_given (behind_words 9 rest))
    (pen_holds (words_of rest)) (lettering_holds (drop 4 (words_of rest))) (chars_hold (behind_words 9 rest) (behind_all_bytes 9 rest are))

-- the edits of one element
sym_so : (n : Option ℕ) (look : Option LookChange) → IfSome look IsLook → HoldsEdit (sym_of n look)
sym_so None look h = tt
sym_so (Some n) None h = tt
sym_so (Some n) (Some look) h = h

color_is : (c : ℕ) → c < 256 → IsLook (color_change c)
color_is c h = record { color = h; weight = tt; style = tt }

color_holds : (words : List (List ℕ)) → HoldsEdit (color_command words)
color_holds [] = tt
color_holds (n ∷ []) = tt
color_holds (n ∷ c ∷ []) =
    sym_so (element_named n) (option_map color_change (number_within 255 c))
    (of_some IsLook color_change (number_within 255 c) (IfSome_then (number_within 255 c) (number_below 255 c) color_is))
color_holds (n ∷ c ∷ x ∷ words) = tt

sym_holds : (words : List (List ℕ)) → HoldsEdit (sym_command words)
sym_holds [] = tt
sym_holds (n ∷ words) = sym_so (element_named n) (look_named words) (look_holds words)

move_so : (n : Option ℕ) (by : Option Displacement) → IfSome by IsShift → HoldsEdit (move_of n by)
move_so None by h = tt
move_so (Some n) None h = tt
move_so (Some n) (Some by) h = h

move_holds : (words : List (List ℕ)) → HoldsEdit (move_command words)
move_holds [] = tt
move_holds (n ∷ words) = move_so (element_named n) (shift_named words) (shift_holds words)

copy_so : (n : Option ℕ) (by : Option Displacement) → IfSome by IsShift → HoldsEdit (copy_of n by)
copy_so None by h = tt
copy_so (Some n) None h = tt
copy_so (Some n) (Some by) h = h

copy_holds : (words : List (List ℕ)) → HoldsEdit (copy_command words)
copy_holds [] = tt
copy_holds (n ∷ words) = copy_so (element_named n) (shift_named words) (shift_holds words)

delete_holds : (words : List (List ℕ)) → HoldsEdit (delete_command words)
delete_holds words = plain (λ n. command.Edit (edit.Delete n)) (one_element words) (λ n. tt)

-- the commands of a fence
fenced_so : (mode : Option Mode) (e : Option FenceEdit) → IfSome e IsFenceEdit → HoldsEdit (fenced mode e)
fenced_so None e h = tt
fenced_so (Some mode) None h = tt
fenced_so (Some mode) (Some e) h = h

fmove_holds : (words : List (List ℕ)) → HoldsEdit (fmove_command words)
fmove_holds [] = tt
fmove_holds (mode ∷ words) =
    fenced_so (mode_named mode) (option_map fence.Move (shift_named words)) (of_some IsFenceEdit fence.Move (shift_named words) (shift_holds words))

fcopy_holds : (words : List (List ℕ)) → HoldsEdit (fcopy_command words)
fcopy_holds [] = tt
fcopy_holds (mode ∷ words) =
    fenced_so (mode_named mode) (option_map fence.Copy (shift_named words)) (of_some IsFenceEdit fence.Copy (shift_named words) (shift_holds words))

fsym_holds : (words : List (List ℕ)) → HoldsEdit (fsym_command words)
fsym_holds [] = tt
fsym_holds (mode ∷ words) =
    fenced_so (mode_named mode) (option_map fence.Sym (look_named words)) (of_some IsFenceEdit fence.Sym (look_named words) (look_holds words))

fdelete_holds : (words : List (List ℕ)) → HoldsEdit (fdelete_command words)
fdelete_holds [] = tt
fdelete_holds (mode ∷ []) = fenced_so (mode_named mode) (Some fence.Delete) tt
fdelete_holds (mode ∷ x ∷ words) = tt

fence_holds : (words : List (List ℕ)) → HoldsEdit (fence_command words)
fence_holds [] = tt
fence_holds (word ∷ words) = plain command.Fence (each_named corner_named (word ∷ words)) (λ corners. tt)

select_holds : (words : List (List ℕ)) → HoldsEdit (select_command words)
select_holds [] = tt
select_holds (mode ∷ []) = plain command.Select (mode_named mode) (λ m. tt)
select_holds (mode ∷ x ∷ words) = tt

-- an import
import_holds : (words : List (List ℕ)) → HoldsEdit (import_command words)
import_holds [] = tt
import_holds (name ∷ words) =
    cond_both (is_name name) (option_map (command.Import name) (given_shift words)) None HoldsEdit
    (λ passes. of_some IsEditIn (command.Import name) (given_shift words) (given_shift_holds words)) (λ fails. tt)

-- the command that a line says, where it says one
abbrev asked_by : Reading → Option Command
asked_by (Asks c) = Some c
asked_by other = None

-- it holds what its type keeps. A record, so that its own type tells which reading it is about
record SaysEdit (reading : Reading) : Type 0 where
  holds : HoldsEdit (asked_by reading)

asking_so : (o : Option Command) → HoldsEdit o → SaysEdit (asking o)
asking_so None h = record { holds = tt }
asking_so (Some c) h = record { holds = h }

none_said : SaysEdit Bad
none_said = record { holds = tt }

-- the command of each name holds it
named_holds : (name : CommandName) (rest : List ℕ) → IsBytes rest → HoldsEdit (command_named name rest)
named_holds names.Line rest are = line_holds (words_of rest)
named_holds names.String rest are = string_holds (words_of rest)
named_holds names.Shape rest are = shape_holds (words_of rest)
named_holds names.Text rest are = text_holds rest are
named_holds names.Fence rest are = fence_holds (words_of rest)
named_holds names.Import rest are = import_holds (words_of rest)
named_holds names.Color rest are = color_holds (words_of rest)
named_holds names.Move rest are = move_holds (words_of rest)
named_holds names.Copy rest are = copy_holds (words_of rest)
named_holds names.Sym rest are = sym_holds (words_of rest)
named_holds names.Delete rest are = delete_holds (words_of rest)
named_holds names.Undo rest are = alone_holds command.Undo (words_of rest) tt
named_holds names.Levels rest are = plain (λ mask. command.Levels (record { 0 = mask })) (mask_named (words_of rest)) (λ mask. tt)
named_holds names.Show rest are = alone_holds command.Show (words_of rest) tt
named_holds names.Tree rest are = plain command.Tree (one_element (words_of rest)) (λ n. tt)
named_holds names.Elements rest are = alone_holds command.Elements (words_of rest) tt
named_holds names.Refs rest are = alone_holds command.Refs (words_of rest) tt
named_holds names.Links rest are = plain command.Links (one_element (words_of rest)) (λ n. tt)
named_holds names.Select rest are = select_holds (words_of rest)
named_holds names.NoFence rest are = alone_holds command.NoFence (words_of rest) tt
named_holds names.FenceMove rest are = fmove_holds (words_of rest)
named_holds names.FenceCopy rest are = fcopy_holds (words_of rest)
named_holds names.FenceSym rest are = fsym_holds (words_of rest)
named_holds names.FenceDelete rest are = fdelete_holds (words_of rest)
named_holds names.Audit rest are = alone_holds command.Audit (words_of rest) tt
named_holds names.Fit rest are = plain command.Fit (one_element (words_of rest)) (λ n. tt)

found_holds : (found : Option CommandName) (rest : List ℕ) → IsBytes rest → HoldsEdit (option_and_then (λ name. command_named name rest) found)
found_holds None rest are = tt
found_holds (Some name) rest are = named_holds name rest are

reading_says : (word rest : List ℕ) → IsBytes rest → SaysEdit (reading_of word rest)
reading_says word rest are = asking_so (option_and_then (λ name. command_named name rest) (name_of word)) (found_holds (name_of word) rest are)

line_says : (line : List ℕ) → IsBytes line → SaysEdit (command_of line)
line_says line are =
    cond_both (is_blank_line line || is_comment line) Nothing (reading_of (first_word line) (behind_word line)) SaysEdit
    (λ passes. record { holds = tt }) (λ fails. reading_says (first_word line) (behind_word line) (behind_bytes line are))

limited_says : (imports : ℕ) (reading : Reading) → SaysEdit reading → SaysEdit (limited imports reading)
limited_says imports reading h = cond_both (nat_le 4 imports && is_import reading) Bad reading SaysEdit (λ passes. none_said) (λ fails. h)

-- the lines of a script
joined_so : (number : ℕ) (reading : Reading) (more : Result (List Command) ScriptFault) → SaysEdit reading → IfOk more (All IsEditIn)
    → IfOk (with_line number reading more) (All IsEditIn)
joined_so number Nothing more h k = k
joined_so number (Asks c) (Ok cs) h k = All-cons IsEditIn c cs h.holds k
joined_so number (Asks c) (Err e) h k = tt
joined_so number Bad more h k = tt

lines_say : (number imports : ℕ) (lines : List (List ℕ)) → All IsBytes lines → IfOk (commands_from number imports lines) (All IsEditIn)
lines_say number imports [] are = All-nil IsEditIn
lines_say number imports (line ∷ lines) are =
    joined_so number (limited imports (command_of line)) (commands_from (number + 1) (imports_with imports (command_of line)) lines)
    (limited_says imports (command_of line) (line_says line (All-head IsBytes line lines are)))
    (lines_say (number + 1) (imports_with imports (command_of line)) lines (All-tail IsBytes line lines are))

pub scripts_hold_edits : ScriptsHoldEdits
scripts_hold_edits text cs are reads = subst (λ read. IfOk read (All IsEditIn)) reads (lines_say 1 0 (lines_of text) (lines_bytes text are))

-- so what they make of a file that opens is that file at each place that they don't write
pub untouched_by_scripts : UntouchedByScripts
untouched_by_scripts f d text cs files opens are reads bytes = untouched f d cs files opens (scripts_hold_edits text cs are reads) bytes
