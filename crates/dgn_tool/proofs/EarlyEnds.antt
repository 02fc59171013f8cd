-- The outcomes with which reading ends a run.
use Rattle.std.proofs.Common.{◌≡◌, ◌++◌, ◌∷◌, List, [], ℕ, length, nat_lt, Bool, true, false, if◌then◌else◌, Result, Ok, Err, refl, subst}
use Rattle.std.specs.Prelude.{codes}
use Rattle.dgn_desk.specs.Content.{Files, bytes_of}
use Rattle.dgn_drawing.specs.Opening.{Fault}
use Rattle.dgn_drawing.specs.declared.command.Command.{Command}
use Rattle.dgn_import.specs.Seconds.{SecondValue, second_of}
use Rattle.edit_script.specs.Script.{commands_of}
use Rattle.edit_script.specs.declared.fault.ScriptFault.{ScriptFault}
use Rattle.edit_script.specs.declared.fault.ScriptFault.TheVariants as faults
use Rattle.elem_index.specs.Opened.{Opened, opening}
use Rattle.patch_file.specs.Reading.{patch_of}
use Rattle.patch_file.specs.Spelling.{Packed}
use Rattle.dgn_answers.specs.Steps.{steps_of}
use Rattle.dgn_tool.specs.Ended.{Outcome, ended}
use Rattle.dgn_tool.specs.Inputs.{design_in, drawing_opened, drawing_in, commands_read, commands_in, second_in, seconds_behind, seconds_in, Inputs, inputs_in}
use Rattle.dgn_tool.specs.Inputs.{entries_read, entries_in}
use Rattle.dgn_tool.specs.Readings.{Source, Reading, at_once, behind_sources, ◌>>=◌, file_in, ended_by}
use Rattle.dgn_tool.specs.SecondFiles.{names_in}
use Rattle.dgn_tool.specs.declared.status.Status.{Status}
use Rattle.dgn_tool.specs.declared.status.Status.TheVariants as statuses
use Rattle.dgn_drawing.specs.declared.limits.TheConstants.{MOST_DESIGN}
use Rattle.edit_script.specs.declared.limits.TheConstants.{MOST_SCRIPT}
use Rattle.patch_file.specs.declared.limits.TheConstants.{MOST_PATCH}

-- the statuses of these
abbrev pub IsEarly : Status → Type 0
IsEarly statuses.TooLong = Unit {0}
IsEarly statuses.BadDesign = Unit {0}
IsEarly statuses.BadScript = Unit {0}
IsEarly statuses.BadPatch = Unit {0}
IsEarly statuses.Memory = Unit {0}
IsEarly _ = ⊥

-- an outcome with such a status that says a line and writes nothing
pub record EndsSo (o : Outcome) : Type 0 where
  pub status : Status
  pub line : List ℕ
  pub is : o ≡ ended status line
  pub early : IsEarly status

-- where reading ends the run, it ends it so
abbrev pub EndsEarly : {T : Type 0} → Result T Outcome → Type 0
EndsEarly (Ok x) = Unit {0}
EndsEarly (Err o) = EndsSo o

-- a line with such a status
line_early : (status : Status) (line : List ℕ) → IsEarly status → EndsSo (ended status line)
line_early status line early = record { status = status; line = line; is = refl; early = early }

-- reading on
on_early : {A B : Type 0} (before : List Source) (r : Result A Outcome) (next : A → Reading B) → EndsEarly r → ((x : A) → EndsEarly (next x).answer)
    → EndsEarly (behind_sources before r next).answer
on_early before (Ok x) next first others = others x
on_early before (Err o) next first others = first

-- a file
file_early : (files : Files) (name : List ℕ) (limit : ℕ) (line : List ℕ) → EndsEarly (file_in files name limit line).answer
file_early files name limit line = by (nat_lt limit (length (bytes_of files name)))
  where
    by : (long : Bool) → EndsEarly {T = List ℕ} (if long then Err (ended statuses.TooLong line) else Ok (bytes_of files name))
    by true = line_early statuses.TooLong line tt
    by false = tt

opened_early : (found : Result Opened Fault) → EndsEarly (drawing_opened found)
opened_early (Ok d) = tt
opened_early (Err fault) = line_early statuses.BadDesign _ tt

pub drawing_early : (files : Files) (input : List ℕ) → EndsEarly (drawing_in files input).answer
drawing_early files input =
    on_early (design_in files input).sources (design_in files input).answer (λ bytes. at_once (drawing_opened (opening bytes)))
    (file_early files input MOST_DESIGN (codes "too long design\n")) (λ bytes. opened_early (opening bytes))

read_early : (found : Result (List Command) ScriptFault) → EndsEarly (commands_read found)
read_early (Ok cs) = tt
read_early (Err (faults.Line number)) = line_early statuses.BadScript _ tt
read_early (Err faults.Memory) = line_early statuses.Memory [] tt

commands_early : (files : Files) (script : List ℕ) → EndsEarly (commands_in files script).answer
commands_early files script =
    let text = file_in files script MOST_SCRIPT (codes "too long script\n") in
    on_early text.sources text.answer (λ bytes. at_once (commands_read (commands_of bytes)))
    (file_early files script MOST_SCRIPT (codes "too long script\n")) (λ bytes. read_early (commands_of bytes))

seconds_early : (files : Files) (before : List SecondValue) (names : List (List ℕ)) → EndsEarly (seconds_behind files before names).answer
seconds_early files before [] = tt
seconds_early files before (name ∷ names) =
    let file = file_in files name MOST_DESIGN (codes "too long import\n") in
    on_early (second_in files name).sources (second_in files name).answer (λ v. seconds_behind files (before ++ v ∷ []) names)
    (on_early file.sources file.answer (λ bytes. at_once (Ok (second_of bytes))) (file_early files name MOST_DESIGN (codes "too long import\n")) (λ _. tt))
    (λ v. seconds_early files (before ++ v ∷ []) names)

pub inputs_early : (files : Files) (input script : List ℕ) → EndsEarly (inputs_in files input script).answer
inputs_early files input script =
    let behind_seconds : Opened → List Command → List SecondValue → Reading Inputs =
    λ d cs vs. at_once (Ok (record { drawing = d; steps = steps_of cs vs })) in
    let behind_script : Opened → List Command → Reading Inputs = λ d cs. seconds_in files cs >>= behind_seconds d cs in
    on_early (drawing_in files input).sources (drawing_in files input).answer (λ d. commands_in files script >>= behind_script d)
    (drawing_early files input)
    (λ d. on_early (commands_in files script).sources (commands_in files script).answer (behind_script d) (commands_early files script)
    (λ cs. on_early (seconds_in files cs).sources (seconds_in files cs).answer (behind_seconds d cs) (seconds_early files [] (names_in cs)) (λ _. tt)))

entries_read_early : (size : ℕ) (found : Result (List Packed) ℕ) → EndsEarly (entries_read size found)
entries_read_early size (Ok es) = tt
entries_read_early size (Err left) = line_early statuses.BadPatch _ tt

pub entries_early : (files : Files) (patch : List ℕ) → EndsEarly (entries_in files patch).answer
entries_early files patch =
    let file = file_in files patch MOST_PATCH (codes "too long patch\n") in
    on_early file.sources file.answer (λ bytes. at_once (entries_read (length bytes) (patch_of bytes)))
    (file_early files patch MOST_PATCH (codes "too long patch\n")) (λ bytes. entries_read_early (length bytes) (patch_of bytes))

-- a run that reads so and ends with another status read all that it went on with
pub went_on : {A : Type 0} (P : Status → Type 0) (before : List Source) (r : Result A Outcome) (next : A → Reading Outcome) → EndsEarly r
    → ((status : Status) → IsEarly status → P status → ⊥) → P (ended_by (behind_sources before r next).answer).status → (x : A) × (r ≡ Ok x)
went_on P before (Ok x) next early apart such = (x, refl)
went_on P before (Err o) next early apart such = absurd (apart early.status early.early (subst (λ (q : Outcome). P q.status) early.is such))
