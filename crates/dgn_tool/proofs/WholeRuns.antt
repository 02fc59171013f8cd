-- What a whole run ensures, by the end of the form that was asked for, or by what was said of words of no form.
use Rattle.std.proofs.Common.{◌≡◌, Bool, Option, Some, None, Ok, Err, List, [], ◌∷◌, refl, sym, subst, arith}
use Rattle.std.specs.Prelude.{IfSome, IsNone, IsTrue}
use Rattle.dgn_desk.specs.Content.{Files, Content}
use Rattle.dgn_desk.specs.declared.stop.Stop.{Stop}
use Rattle.dgn_desk.specs.declared.stop.Stop.TheVariants as stops
use Rattle.dgn_desk.specs.Desk.{SaysAll}
use Rattle.dgn_desk.specs.Seen.{Seen, Writes}
use Rattle.dgn_desk.proofs.InTurn.{done_so, stopped_so}
use Rattle.dgn_tool.specs.Ended.{Outcome}
use Rattle.dgn_tool.specs.Ends.{EndsThere, ComesTo, status_said, status_of}
use Rattle.dgn_tool.specs.Leaving.{Leaves, Stops}
use Rattle.dgn_tool.specs.Readings.{Source, Reading, ended_by, ending_of, AreInBytes, AreThere, AreGiven}
use Rattle.dgn_tool.specs.Request.{Request}
use Rattle.dgn_tool.specs.Outcome.{usage_line, reading_of, outcome_of, IsEnding, IsStopped, IsFaultless, FilesInBytes, HasFiles, Reads}
use Rattle.dgn_tool.specs.Runs.{Runs}
use Rattle.dgn_tool.specs.declared.ending.Ending.{Ending}
use Rattle.dgn_tool.specs.declared.ending.Ending.TheVariants as endings
use Rattle.dgn_tool.specs.declared.end.End.{End}
use Rattle.dgn_tool.specs.declared.end.End.TheVariants as ends
use Rattle.dgn_tool.specs.declared.status.Status.{Status}
use Rattle.dgn_tool.specs.declared.status.Status.TheVariants as statuses
use Rattle.dgn_tool.proofs.ToldContents.{where_all, line_said, line_stopped}
use Rattle.dgn_tool.proofs.WrittenFiles.{edits_as_asked}

-- the status of an ending that was said is that of an ending, and not Usage
said_ends : (ending : Ending) → IsEnding (status_said ending) × ¬ (status_said ending ≡ statuses.Usage)
said_ends endings.Done = (tt, λ is. let x = is in cc)
said_ends endings.SomeRefused = (tt, λ is. let x = is in cc)
said_ends endings.BadScript = (tt, λ is. let x = is in cc)
said_ends endings.BadDesign = (tt, λ is. let x = is in cc)
said_ends endings.TooLong = (tt, λ is. let x = is in cc)
said_ends endings.BadPatch = (tt, λ is. let x = is in cc)
said_ends endings.PatchRefused = (tt, λ is. let x = is in cc)

-- and such a status is of no stop and of no fault
not_stopped : (status : Status) → IsEnding status → IsStopped status → ⊥
not_stopped statuses.WriteFault ending stopped = ending
not_stopped statuses.Memory ending stopped = ending
not_stopped _ ending stopped = stopped

faultless : (status : Status) → IsEnding status → IsFaultless status
faultless statuses.ReadFault ending = ending
faultless statuses.WriteFault ending = ending
faultless _ ending = tt

-- a run that came to an ending, which is Usage where nothing was asked for
ended_run : (request : Option Request) (status : Status) (old new : Seen) → IsEnding status → (status ≡ statuses.Usage → IsNone request)
    → (IsNone request → status ≡ statuses.Usage) → IfSome old.content (λ c. FilesInBytes request c.files)
    → (IsTrue old.strict → IfSome old.content (λ c. HasFiles request c.files))
    → Writes {T = Unit {0}} (Ok tt) (λ told now. IfSome told (λ c. Leaves (outcome_of request c.files) status c now)) old new → Runs request old new status
ended_run request status old new ending usage improper bytes found left = record {
  concludes = record {
    outcome = λ _. left.changes;
    counted = λ _. (left.other, left.cause);
    usage = usage;
    improper = λ none _. improper none;
    read_fault = λ is. absurd (subst IsEnding is ending);
    write_fault = λ is. absurd (subst IsEnding is ending);
    complete = λ _ _. faultless status ending;
    complete_willing = λ _ _. faultless status ending;
    bytes = λ _. bytes;
    found = λ _. found;
    never_fewer = omega (arith, left.cause);
    stays_willing = left.stays_willing;
    as_asked = edits_as_asked request status old.content new.content (λ _. left.changes) (λ _. bytes);
  };
  prefix = λ stopped. absurd (not_stopped status ending stopped);
  memory = λ is. absurd (subst IsEnding is ending);
}

-- or that was stopped
stopped_run : (request : Option Request) (stop : Stop) (old new : Seen)
    → Writes {T = Unit {0}} (Err stop) (λ told now. IfSome told (λ c. Stops (outcome_of request c.files) c now)) old new
    → Runs request old new (status_of (ends.Stopped stop))
stopped_run request stops.Failed old new left = record {
  concludes = record {
    outcome = λ ending. absurd ending;
    counted = λ ending. absurd ending;
    usage = λ is. absurd (let x = is in cc);
    improper = λ _ ending. absurd ending;
    read_fault = λ is. absurd (let x = is in cc);
    write_fault = λ _. left.cause.1;
    complete = λ _ unwritten. absurd (unwritten left.cause.1);
    complete_willing = λ willing _. absurd (left.never_fails willing);
    bytes = λ ending. absurd ending;
    found = λ ending. absurd ending;
    never_fewer = left.cause.0;
    stays_willing = left.stays_willing;
    as_asked = λ input script output asked written. absurd written;
  };
  prefix = λ _. left.changes;
  memory = λ is. absurd (let x = is in cc);
}
stopped_run request stops.Memory old new left = record {
  concludes = record {
    outcome = λ ending. absurd ending;
    counted = λ ending. absurd ending;
    usage = λ is. absurd (let x = is in cc);
    improper = λ _ ending. absurd ending;
    read_fault = λ is. absurd (let x = is in cc);
    write_fault = λ is. absurd (let x = is in cc);
    complete = λ _ _. tt;
    complete_willing = λ _ _. tt;
    bytes = λ ending. absurd ending;
    found = λ ending. absurd ending;
    never_fewer = omega (arith, left.cause);
    stays_willing = left.stays_willing;
    as_asked = λ input script output asked written. absurd written;
  };
  prefix = λ _. left.changes;
  memory = λ _. (left.other, left.cause);
}

-- sources that were given are bytes, and a strict desk has them
given_bytes : (strict : Bool) (files : Files) (sources : List Source) → AreGiven strict files sources → AreInBytes files sources
given_bytes strict files [] given = tt
given_bytes strict files (s ∷ ss) given = (given.0.0, given_bytes strict files ss given.1)

given_there : (strict : Bool) (files : Files) (sources : List Source) → AreGiven strict files sources → IsTrue strict → AreThere files sources
given_there strict files [] given is = tt
given_there strict files (s ∷ ss) given is = (given.0.1 is, given_there strict files ss given.1 is)

-- what is told at an ending: the outcome, that the files which were read are bytes, and that a strict desk has them
record Told (reading : Files → Reading Outcome) (strict : Bool) (ending : Ending) (old new : Option Content) : Type 0 where
  leaves : IfSome old (λ c. Leaves (ended_by (reading c.files).answer) (status_said ending) c new)
  bytes : IfSome old (λ c. AreInBytes c.files (reading c.files).sources)
  found : IsTrue strict → IfSome old (λ c. AreThere c.files (reading c.files).sources)

said_told : (reading : Files → Reading Outcome) (strict : Bool) (ending : Ending) (old new : Option Content)
    → IfSome old (λ c. EndsThere strict (ending_of (reading c.files)) ending c new) → Told reading strict ending old new
said_told reading strict ending None new told = record { leaves = tt; bytes = tt; found = λ _. tt }
said_told reading strict ending (Some c) new told =
    let is : ended_by (reading c.files).answer ≡ told.outcome = (let e = told.answer_is in cc) in
    record {
      leaves = subst (λ (o : Outcome). Leaves o (status_said ending) c new) (sym is) told.leaves;
      bytes = given_bytes strict c.files (reading c.files).sources told.given;
      found = given_there strict c.files (reading c.files).sources told.given;
    }

-- and where it was stopped
stopped_told : (reading : Files → Reading Outcome) (old new : Option Content)
    → IfSome old (λ c. (o : Outcome) → ended_by (reading c.files).answer ≡ o → Stops o c new)
    → IfSome old (λ c. Stops (ended_by (reading c.files).answer) c new)
stopped_told reading None new told = tt
stopped_told reading (Some c) new told = told (ended_by (reading c.files).answer) refl

-- a run that came to this end
ends_as : (request : Request) (old new : Seen) (end : End) → (end ≡ ends.ReadFault → Reads (Some request))
    → ComesTo (λ files. ending_of (reading_of (Some request) files)) (Err end) old new → Runs (Some request) old new (status_of end)
ends_as request old new (ends.Said ending) reads ended =
    let is = said_ends ending in
    let told = said_told (reading_of (Some request)) old.strict ending old.content new.content ended.changes in
    ended_run (Some request) (status_said ending) old new is.0 (λ usage. absurd (is.1 usage)) (λ none. absurd (let x = none in cc)) told.bytes
    told.found (done_so ending tt ended (λ _. told.leaves))
ends_as request old new ends.ReadFault reads ended = record {
  concludes = record {
    outcome = λ ending. absurd ending;
    counted = λ ending. absurd ending;
    usage = λ is. absurd (let x = is in cc);
    improper = λ none. absurd (let x = none in cc);
    read_fault = λ _. (reads refl, ended.rose, ended.only);
    write_fault = λ is. absurd (let x = is in cc);
    complete = λ unread _. absurd (unread ended.rose);
    complete_willing = λ willing there. absurd (ended.lacks willing there);
    bytes = λ ending. absurd ending;
    found = λ ending. absurd ending;
    never_fewer = omega (arith, ended.quiet);
    stays_willing = ended.stays_willing;
    as_asked = λ input script output asked written. absurd written;
  };
  prefix = λ stopped. absurd stopped;
  memory = λ is. absurd (let x = is in cc);
}
ends_as request old new (ends.Stopped stop) reads ended =
    stopped_run (Some request) stop old new (stopped_so stop ended (stopped_told (reading_of (Some request)) old.content new.content))

pub ran : (request : Request) (asked : Option Request) (old new : Seen) (end : End) (status : Status) → Some request ≡ asked → status ≡ status_of end
    → (end ≡ ends.ReadFault → Reads (Some request))
    → ComesTo (λ files. ending_of (reading_of (Some request) files)) (Err end) old new → Runs asked old new status
ran request asked old new end status is tells reads ended =
    subst (λ (r : Option Request). Runs r old new status) is (subst (Runs (Some request) old new) (sym tells) (ends_as request old new end reads ended))

-- a run of words of no form

pub says_usage : (old new : Seen) → Writes {T = Unit {0}} (Ok tt) (SaysAll (Ok tt) usage_line) old new → Runs None old new statuses.Usage
says_usage old new said =
    ended_run None statuses.Usage old new tt (λ _. refl) (λ _. refl) (where_all (λ _. Unit {0}) old.content (λ _. tt))
    (λ _. where_all (λ _. Unit {0}) old.content (λ _. tt))
    (done_so tt tt said (line_said statuses.Usage usage_line old.content new.content))

pub stops_usage : (old new : Seen) (stop : Stop) (status : Status) → status ≡ status_of (ends.Stopped stop)
    → Writes {T = Unit {0}} (Err stop) (SaysAll (Err stop) usage_line) old new → Runs None old new status
stops_usage old new stop status tells said =
    subst (Runs None old new) (sym tells)
    (stopped_run None stop old new (stopped_so stop said (line_stopped statuses.Usage usage_line stop old.content new.content)))
