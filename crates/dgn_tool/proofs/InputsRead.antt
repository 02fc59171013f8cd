-- What is known of the files by what reading them gave.
use Rattle.std.proofs.Common.{◌≡◌, ◌≤◌, ◌++◌, ◌∷◌, List, [], ℕ, length, map, nat_lt, Bool, true, false, if◌then◌else◌, Result, Ok, Err}
use Rattle.std.proofs.Common.{refl, sym, ap, ◌∙◌, subst, arith}
use Rattle.std.proofs.Common.{append_assoc}
use Rattle.std.specs.Prelude.{All, codes}
use Rattle.std.proofs.lemmas.Bool.Decides.{nat_tests}
use Rattle.std.proofs.lemmas.List.{append-nil}
use Rattle.std.proofs.lemmas.List.Elements.{All-nil, All-cons}
use Rattle.dgn_desk.specs.Content.{Files, bytes_of}
use Rattle.dgn_drawing.specs.Opening.{Fault}
use Rattle.dgn_drawing.specs.WellFormed.{IsBytes}
use Rattle.dgn_drawing.specs.declared.command.Command.{Command}
use Rattle.dgn_import.specs.Seconds.{SecondValue, second_of}
use Rattle.edit_script.specs.Script.{commands_of}
use Rattle.edit_script.specs.declared.fault.ScriptFault.{ScriptFault}
use Rattle.edit_script.specs.declared.fault.ScriptFault.TheVariants as faults
use Rattle.elem_index.specs.Opened.{Opened, opening}
use Rattle.dgn_answers.specs.Steps.{steps_of}
use Rattle.dgn_tool.specs.EditedRuns.{steps_with}
use Rattle.dgn_tool.specs.Ended.{Outcome, ended}
use Rattle.dgn_tool.specs.Inputs.{design_in, drawing_opened, drawing_in, commands_read, commands_in, second_in, seconds_behind, seconds_in, Inputs, inputs_in}
use Rattle.dgn_tool.specs.Readings.{Source, Reading, at_once, behind_sources, ◌>>=◌, file_in, IsInBytes, AreInBytes}
use Rattle.dgn_tool.specs.SecondFiles.{names_in, files_named}
use Rattle.dgn_tool.specs.declared.status.Status.TheVariants as statuses
use Rattle.dgn_drawing.specs.declared.limits.TheConstants.{MOST_DESIGN}
use Rattle.edit_script.specs.declared.limits.TheConstants.{MOST_SCRIPT}
use Rattle.dgn_tool.proofs.ReadingsInTurn.{all_parts}

-- reading on gave this: both parts did, and their files are bytes
record Parts {A B : Type 0} (files : Files) (before : List Source) (r : Result A Outcome) (next : A → Reading B) (y : B) : Type 0 where
  value : A
  first : r ≡ Ok value
  second : (next value).answer ≡ Ok y
  front : AreInBytes files before
  back : AreInBytes files (next value).sources

parts : {A B : Type 0} (files : Files) (before : List Source) (r : Result A Outcome) (next : A → Reading B) (y : B)
    → (behind_sources before r next).answer ≡ Ok y → AreInBytes files (behind_sources before r next).sources → Parts files before r next y
parts files before (Ok x) next y is all =
    let each = all_parts (IsInBytes files) before (next x).sources all in
    record { value = x; first = refl; second = is; front = each.0; back = each.1 }
parts files before (Err o) next y is all = absurd (let e = is in cc)

-- a file is within its limit and bytes, and these are the bytes
pub record HasBytes (files : Files) (name : List ℕ) (limit : ℕ) (bytes : List ℕ) : Type 0 where
  pub few : length (bytes_of files name) ≤ limit
  pub same : bytes ≡ bytes_of files name
  pub bytes_are : IsBytes (bytes_of files name)

file_parts : (files : Files) (name : List ℕ) (limit : ℕ) (line bytes : List ℕ) → (file_in files name limit line).answer ≡ Ok bytes
    → AreInBytes files (file_in files name limit line).sources → HasBytes files name limit bytes
file_parts files name limit line bytes is are = by (nat_lt limit (length (bytes_of files name))) refl is
  where
    by : (long : Bool) → nat_lt limit (length (bytes_of files name)) ≡ long
        → (if long then Err (ended statuses.TooLong line) else Ok (bytes_of files name)) ≡ Ok bytes → HasBytes files name limit bytes
    by true test is = absurd (let e = is in cc)
    by false test is =
        let few : length (bytes_of files name) ≤ limit = grind (arith, nat_tests) in
        record { few = few; same = (let e = is in cc); bytes_are = are.0 few }

-- IN is within its limit and bytes, and opens
pub record IsOpened (files : Files) (input : List ℕ) (d : Opened) : Type 0 where
  pub few : length (bytes_of files input) ≤ MOST_DESIGN
  pub opens : opening (bytes_of files input) ≡ Ok d
  pub bytes_are : IsBytes (bytes_of files input)

opened_ok : (found : Result Opened Fault) (d : Opened) → drawing_opened found ≡ Ok d → found ≡ Ok d
opened_ok (Ok x) d is = (let e = is in cc)
opened_ok (Err fault) d is = absurd (let e = is in cc)

pub drawing_parts : (files : Files) (input : List ℕ) (d : Opened) → (drawing_in files input).answer ≡ Ok d
    → AreInBytes files (drawing_in files input).sources → IsOpened files input d
drawing_parts files input d is are =
    let file : Reading (List ℕ) = design_in files input in
    let p = parts files file.sources file.answer (λ bytes. at_once (drawing_opened (opening bytes))) d is are in
    let read = file_parts files input MOST_DESIGN (codes "too long design\n") p.value p.first p.front in
    record { few = read.few; opens = ap opening (sym read.same) ∙ opened_ok (opening p.value) d p.second; bytes_are = read.bytes_are }

-- SCRIPT is bytes, and reads
record ReadsSo (files : Files) (script : List ℕ) (cs : List Command) : Type 0 where
  reads : commands_of (bytes_of files script) ≡ Ok cs
  bytes_are : IsBytes (bytes_of files script)

read_ok : (found : Result (List Command) ScriptFault) (cs : List Command) → commands_read found ≡ Ok cs → found ≡ Ok cs
read_ok (Ok x) cs is = (let e = is in cc)
read_ok (Err (faults.Line number)) cs is = absurd (let e = is in cc)
read_ok (Err faults.Memory) cs is = absurd (let e = is in cc)

commands_parts : (files : Files) (script : List ℕ) (cs : List Command) → (commands_in files script).answer ≡ Ok cs
    → AreInBytes files (commands_in files script).sources → ReadsSo files script cs
commands_parts files script cs is are =
    let file : Reading (List ℕ) = file_in files script MOST_SCRIPT (codes "too long script\n") in
    let p = parts files file.sources file.answer (λ text. at_once (commands_read (commands_of text))) cs is are in
    let read = file_parts files script MOST_SCRIPT (codes "too long script\n") p.value p.first p.front in
    record { reads = ap commands_of (sym read.same) ∙ read_ok (commands_of p.value) cs p.second; bytes_are = read.bytes_are }

value_so : (v w : SecondValue) → (at_once (Ok v)).answer ≡ Ok w → w ≡ v
value_so v w is = (let e = is in cc)

-- the second files are bytes, and come to these
seconds_parts : (files : Files) (before : List SecondValue) (names : List (List ℕ)) (vs : List SecondValue)
    → (seconds_behind files before names).answer ≡ Ok vs → AreInBytes files (seconds_behind files before names).sources
    → (vs ≡ before ++ map second_of (files_named names files)) × All IsBytes (files_named names files)
seconds_parts files before [] vs is are =
    let same : vs ≡ before = (let e = is in cc) in
    (same ∙ sym (append-nil before), All-nil IsBytes)
seconds_parts files before (name ∷ names) vs is are =
    let one : Reading SecondValue = second_in files name in
    let file : Reading (List ℕ) = file_in files name MOST_DESIGN (codes "too long import\n") in
    let p = parts files one.sources one.answer (λ v. seconds_behind files (before ++ v ∷ []) names) vs is are in
    let q = parts files file.sources file.answer (λ bytes. at_once (Ok (second_of bytes))) p.value p.first p.front in
    let read = file_parts files name MOST_DESIGN (codes "too long import\n") q.value q.first q.front in
    let v_is : p.value ≡ second_of (bytes_of files name) = value_so (second_of q.value) p.value q.second ∙ ap second_of read.same in
    let more = seconds_parts files (before ++ p.value ∷ []) names vs p.second p.back in (
      more.0 ∙ append_assoc before (p.value ∷ []) (map second_of (files_named names files))
          ∙ ap (λ (v : SecondValue). before ++ v ∷ map second_of (files_named names files)) v_is,
      All-cons IsBytes (bytes_of files name) (files_named names files) read.bytes_are more.1,
    )

-- what is known of IN, SCRIPT and the second files of a run that read them: they are bytes, and this was read
pub record Went (input script : List ℕ) (files : Files) (i : Inputs) : Type 0 where
  pub commands : List Command
  pub opened : IsOpened files input i.drawing
  pub reads : commands_of (bytes_of files script) ≡ Ok commands
  pub script_bytes : IsBytes (bytes_of files script)
  pub seconds : All IsBytes (files_named (names_in commands) files)
  pub steps : i.steps ≡ steps_with files commands

went_so : (input script : List ℕ) (files : Files) (d : Opened) (cs : List Command) (vs : List SecondValue) (i : Inputs) → IsOpened files input d
    → ReadsSo files script cs → vs ≡ map second_of (files_named (names_in cs) files) → All IsBytes (files_named (names_in cs) files)
    → (at_once (Ok (record { drawing = d; steps = steps_of cs vs }))).answer ≡ Ok i → Went input script files i
went_so input script files d cs vs i opened reads come bytes is =
    let made : record { drawing = d; steps = steps_of cs vs } ≡ i = (let e = is in cc) in
    record {
      commands = cs;
      opened = subst (λ (x : Inputs). IsOpened files input x.drawing) made opened;
      reads = reads.reads;
      script_bytes = reads.bytes_are;
      seconds = bytes;
      steps = ap (λ (x : Inputs). x.steps) (sym made) ∙ ap (steps_of cs) come;
    }

pub went : (input script : List ℕ) (files : Files) (i : Inputs) → (inputs_in files input script).answer ≡ Ok i
    → AreInBytes files (inputs_in files input script).sources → Went input script files i
went input script files i is are =
    let behind_seconds : Opened → List Command → List SecondValue → Reading Inputs =
    λ d cs vs. at_once (Ok (record { drawing = d; steps = steps_of cs vs })) in
    let behind_script : Opened → List Command → Reading Inputs = λ d cs. seconds_in files cs >>= behind_seconds d cs in
    let drawing : Reading Opened = drawing_in files input in
    let script_read : Reading (List Command) = commands_in files script in
    let p = parts files drawing.sources drawing.answer (λ d. commands_in files script >>= behind_script d) i is are in
    let q = parts files script_read.sources script_read.answer (behind_script p.value) i p.second p.back in
    let seconds_read : Reading (List SecondValue) = seconds_in files q.value in
    let r = parts files seconds_read.sources seconds_read.answer (behind_seconds p.value q.value) i q.second q.back in
    let seconds = seconds_parts files [] (names_in q.value) r.value r.first r.front in
    went_so input script files p.value q.value r.value i (drawing_parts files input p.value p.first p.front)
    (commands_parts files script q.value q.first q.front) seconds.0 seconds.1 r.second
