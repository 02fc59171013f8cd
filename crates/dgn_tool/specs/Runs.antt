-- What a whole run ensures, said as one.
use Rattle.std.specs.Prelude.{ℕ, ◌≡◌, ◌≤◌, [], Option, Result, Ok, Err, IfSome, IsNone, IsTrue}
use Rattle.dgn_desk.specs.declared.desk.Desk.{Ghosts}
use Rattle.dgn_desk.specs.Content.{Content, OnlyLeftDiffers}
use Rattle.dgn_desk.specs.Desk.{Rose, StaysWilling}
use Rattle.dgn_desk.specs.Seen.{Seen, seen}
use Rattle.dgn_desk.specs.declared.stop.Stop.{Stop}
use Rattle.dgn_desk.specs.declared.stop.Stop.TheVariants as stops
use Rattle.dgn_tool.specs.Request.{Request}
use Rattle.dgn_tool.specs.EditedRuns.{EditsAsAsked}
use Rattle.dgn_tool.specs.Outcome.{outcome_of, IsEnding, EndsAs, StoppedAs, IsFaultless, HasFiles, FilesInBytes, Reads}
use Rattle.dgn_tool.specs.Status.{number_of}
use Rattle.dgn_tool.specs.declared.status.Status.{Status}
use Rattle.dgn_tool.specs.declared.status.Status.TheVariants as statuses

-- a run with this request ended with this status: the clauses of `run`, but those on what a stop leaves
pub record Concludes (request : Option Request) (old new : Seen) (status : Status) : Type 0 where
  pub outcome : EndsAs status (outcome_of request) old.content new.content
  pub counted : IsEnding status → (new.read_faults ≡ old.read_faults) × (new.write_faults ≡ old.write_faults)
  pub usage : status ≡ statuses.Usage → IsNone request
  pub improper : IsNone request → IsEnding status → status ≡ statuses.Usage
  pub read_fault : status ≡ statuses.ReadFault
      → Reads request × Rose old.read_faults new.read_faults × OnlyLeftDiffers old.content new.content
  pub write_fault : status ≡ statuses.WriteFault → Rose old.write_faults new.write_faults
  pub complete : ¬ Rose old.read_faults new.read_faults → ¬ Rose old.write_faults new.write_faults → IsFaultless status
  pub complete_willing : IsTrue old.willing → IfSome old.content (λ c. HasFiles request c.files) → IsFaultless status
  pub bytes : IsEnding status → IfSome old.content (λ c. FilesInBytes request c.files)
  pub found : IsEnding status → IsTrue old.strict → IfSome old.content (λ c. HasFiles request c.files)
  pub never_fewer : old.write_faults ≤ new.write_faults
  pub stays_willing : StaysWilling old.willing new.willing
  pub as_asked : EditsAsAsked request status old.content new.content

-- all clauses of `run`
pub record Runs (request : Option Request) (old new : Seen) (status : Status) : Type 0 where
  pub concludes : Concludes request old new status
  pub prefix : StoppedAs status (outcome_of request) old.content new.content
  pub memory : status ≡ statuses.Memory → (new.read_faults ≡ old.read_faults) × (new.write_faults ≡ old.write_faults)

-- the same of a desk before and after
abbrev pub DeskRuns : {D : Type 0} → Ghosts D → Option Request → D → D → Status → Type 0
DeskRuns g request old new status = Runs request (seen g old) (seen g new) status

-- a run that concludes so ended with the number of its status
abbrev pub DeskExits : {D : Type 0} → Ghosts D → Option Request → D → D → ℕ → Type 0
DeskExits g request old new number = (status : Status) × (number ≡ number_of status) × Concludes request (seen g old) (seen g new) status

-- and where it was stopped, what was said and written before that came in the order of its outcome
abbrev pub DeskStops : {D : Type 0} → Ghosts D → Option Request → D → D → ℕ → Type 0
DeskStops g request old new number =
    (status : Status) × (number ≡ number_of status) × StoppedAs status (outcome_of request) (g.content old) (g.content new)

-- nothing was said since the last file was begun, where that is told: what was said can't be taken back
abbrev pub IsSettled : Option Content → Type 0
IsSettled content = IfSome content (λ c. c.since ≡ [])

-- what a run over a desk that holds back what is said ends with, once it is flushed: its own status, or that of what stopped
-- the flush
abbrev pub flushed_status : Result (Unit {0}) Stop → Status → Status
flushed_status (Ok x) ended = ended
flushed_status (Err stops.Failed) ended = statuses.WriteFault
flushed_status (Err stops.Memory) ended = statuses.Memory
