-- What a run of `edit` leaves that has written OUT, by what the run came to and by what is known of its files.
use Rattle.std.proofs.Common.{◌≡◌, List, ℕ, Option, Some, None, Ok, ap, ◌∙◌, subst}
use Rattle.std.specs.Prelude.{IfSome}
use Rattle.dgn_desk.specs.Content.{Files, Content, bytes_of}
use Rattle.elem_index.proofs.OpeningAnswers.{opens-opening}
use Rattle.dgn_answers.specs.Steps.{Step}
use Rattle.dgn_tool.specs.Ended.{Outcome}
use Rattle.dgn_tool.specs.Inputs.{Inputs, inputs_in}
use Rattle.dgn_tool.specs.Leaving.{files_after, Leaves}
use Rattle.dgn_tool.specs.Outcome.{edited, outcome_of, EndsAs, IsEnding, FilesInBytes}
use Rattle.dgn_tool.specs.Readings.{Reading, at_once, ◌>>=◌, ended_by, AreInBytes}
use Rattle.dgn_tool.specs.Request.{Request, Edit}
use Rattle.dgn_tool.specs.EditedRuns.{HasWritten, EditsFile, EditsAsAsked}
use Rattle.dgn_tool.specs.declared.status.Status.{Status}
use Rattle.dgn_tool.specs.declared.status.Status.TheVariants as statuses
use Rattle.dgn_tool.proofs.EarlyEnds.{IsEarly, inputs_early, went_on}
use Rattle.dgn_tool.proofs.InputsRead.{Went, went}
use Rattle.dgn_tool.proofs.ReadingsInTurn.{first_all, on_value}
use Rattle.dgn_tool.proofs.ScriptEdits.{untouched_by_scripts}

-- such a status is that of an ending
pub is_ending : (status : Status) → HasWritten status → IsEnding status
is_ending statuses.Done written = tt
is_ending statuses.SomeRefused written = tt
is_ending _ written = absurd written

-- no outcome with which reading ends a run has such a status
not_early : (status : Status) → IsEarly status → HasWritten status → ⊥
not_early statuses.Done early written = early
not_early statuses.SomeRefused early written = early
not_early _ early written = written

-- what a run read that has such a status, and what it came to then
pub record WentOn (input script : List ℕ) (files : Files) (f : Inputs → Outcome) : Type 0 where
  pub inputs : Inputs
  pub went : Went input script files inputs
  pub same : ended_by (inputs_in files input script >>= λ i. at_once (Ok (f i))).answer ≡ f inputs

pub goes_on : (input script : List ℕ) (files : Files) (f : Inputs → Outcome)
    → AreInBytes files (inputs_in files input script >>= λ i. at_once (Ok (f i))).sources
    → HasWritten (ended_by (inputs_in files input script >>= λ i. at_once (Ok (f i))).answer).status → WentOn input script files f
goes_on input script files f are written =
    let read : Reading Inputs = inputs_in files input script in
    let behind : Inputs → Reading Outcome = λ i. at_once (Ok (f i)) in
    let found = went_on HasWritten read.sources read.answer behind (inputs_early files input script) not_early written in
    record {
      inputs = found.0;
      went = went input script files found.0 found.1 (first_all behind _ read.sources read.answer are);
      same = ap (λ (x : Reading Outcome). ended_by x.answer) (on_value behind read found.0 found.1);
    }

-- an edit that did so, and left these files
edits_file : (input script output : List ℕ) (files : Files) (content : Content) (now : Option Content) → now ≡ Some content
    → (w : WentOn input script files (λ i. edited i.drawing i.steps output))
    → content.files ≡ files_after (ended_by (inputs_in files input script >>= λ i. at_once (Ok (edited i.drawing i.steps output))).answer).file files
    → EditsFile input script output files now
edits_file input script output files content now told_is w left =
    let d = w.inputs.drawing in
    let cs = w.went.commands in
    let file = opens-opening (bytes_of files input) d w.went.opened.bytes_are w.went.opened.opens in
    record {
      drawing = d;
      commands = cs;
      opens = file;
      reads = w.went.reads;
      content = content;
      told_is = told_is;
      files_are = left ∙ ap (λ (o : Outcome). files_after o.file files) (w.same ∙ ap (λ (gs : List Step). edited d gs output) w.went.steps);
      stays = untouched_by_scripts (bytes_of files input) d (bytes_of files script) cs _ file w.went.script_bytes w.went.reads w.went.seconds;
    }

-- where it is told what the desk holds
where_held : (request : Option Request) (input script output : List ℕ) (status : Status) (c : Content) (now : Option Content)
    → request ≡ Some (Edit input script output) → HasWritten status
    → Leaves (outcome_of request c.files) status c now → FilesInBytes request c.files → EditsFile input script output c.files now
where_held request input script output status c now asked written leaves known =
    let same : outcome_of request c.files ≡ outcome_of (Some (Edit input script output)) c.files =
    ap (λ (r : Option Request). outcome_of r c.files) asked in
    edits_file input script output c.files leaves.content now leaves.told_is
    (goes_on input script c.files (λ i. edited i.drawing i.steps output) (subst (λ (r : Option Request). FilesInBytes r c.files) asked known)
    (subst (λ (o : Outcome). HasWritten o.status) same (subst HasWritten leaves.status_is written)))
    (leaves.files_are ∙ ap (λ (o : Outcome). files_after o.file c.files) same)

-- a run that came to its ending, of which it is known that its files are bytes, left what it was asked for
pub edits_as_asked : (request : Option Request) (status : Status) (old now : Option Content) → EndsAs status (outcome_of request) old now
    → (IsEnding status → IfSome old (λ c. FilesInBytes request c.files)) → EditsAsAsked request status old now
edits_as_asked request status None now ended known = λ input script output asked written. tt
edits_as_asked request status (Some c) now ended known = λ input script output asked written.
    let ending = is_ending status written in
    where_held request input script output status c now asked written (ended ending) (known ending)
