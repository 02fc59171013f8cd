-- How a part of a run ends the run, and what it leaves of the desk.
use Rattle.std.specs.Prelude.{◌≡◌, Bool, Option, Result, Ok, Err, IfSome, IsTrue}
use Rattle.dgn_desk.specs.declared.desk.Desk.{Ghosts}
use Rattle.dgn_desk.specs.declared.stop.Stop.{Stop}
use Rattle.dgn_desk.specs.declared.stop.Stop.TheVariants as stops
use Rattle.dgn_desk.specs.Content.{Files, Content, OnlyLeftDiffers}
use Rattle.dgn_desk.specs.Desk.{Rose, StaysWilling}
use Rattle.dgn_desk.specs.Seen.{Seen, seen, OnlyReads, Writes}
use Rattle.dgn_tool.specs.Ended.{Outcome}
use Rattle.dgn_tool.specs.Leaving.{Leaves, Stops}
use Rattle.dgn_tool.specs.Readings.{Reading, ending_of, MayComeTo, AreThere, AreGiven}
use Rattle.dgn_tool.specs.declared.status.Status.{Status}
use Rattle.dgn_tool.specs.declared.status.Status.TheVariants as statuses
use Rattle.dgn_tool.specs.declared.ending.Ending.{Ending}
use Rattle.dgn_tool.specs.declared.ending.Ending.TheVariants as endings
use Rattle.dgn_tool.specs.declared.end.End.{End}
use Rattle.dgn_tool.specs.declared.end.End.TheVariants as ends

-- the status of an ending
abbrev pub status_said : Ending → Status
status_said endings.Done = statuses.Done
status_said endings.SomeRefused = statuses.SomeRefused
status_said endings.BadScript = statuses.BadScript
status_said endings.BadDesign = statuses.BadDesign
status_said endings.TooLong = statuses.TooLong
status_said endings.BadPatch = statuses.BadPatch
status_said endings.PatchRefused = statuses.PatchRefused

-- the status of an end
abbrev pub status_of : End → Status
status_of (ends.Said ending) = status_said ending
status_of ends.ReadFault = statuses.ReadFault
status_of (ends.Stopped stops.Failed) = statuses.WriteFault
status_of (ends.Stopped stops.Memory) = statuses.Memory

-- the end of a part that reads nothing
abbrev pub end_of : Result Ending Stop → End
end_of (Ok ending) = ends.Said ending
end_of (Err stop) = ends.Stopped stop

-- Parts that read nothing.

-- what is told then: all of this outcome where the part came to its ending, else a front of it
abbrev pub Tells : Outcome → Result Ending Stop → Option Content → Option Content → Type 0
Tells o (Ok ending) old new = IfSome old (λ c. Leaves o (status_said ending) c new)
Tells o (Err stop) old new = IfSome old (λ c. Stops o c new)

-- a part that reads nothing came to this outcome, or was stopped on the way to it
abbrev pub DeskComes : {D : Type 0} → Ghosts D → Outcome → D → D → Result Ending Stop → Type 0
DeskComes g o old new result = Writes result (Tells o result) (seen g old) (seen g new)

-- Parts that read.

-- all was read: only that was done, and where files are told, it gives this value, all of them are bytes, and a strict desk
-- has them
pub record IsRead {T : Type 0} (reading : Files → Reading T) (value : T) (old new : Seen) : Type 0 where
  pub reads : OnlyReads old new
  pub gives : IfSome old.content (λ c. ((reading c.files).answer ≡ Ok value) × AreGiven old.strict c.files (reading c.files).sources)

-- a run that told this content read so, and ended there with the outcome of that; the files that were read are bytes, and a
-- strict desk has them
pub record EndsThere {T : Type 0} (strict : Bool) (reading : Reading T) (ending : Ending) (old : Content) (new : Option Content) : Type 0 where
  pub outcome : Outcome
  pub answer_is : reading.answer ≡ Err outcome
  pub leaves : Leaves outcome (status_said ending) old new
  pub given : AreGiven strict old.files reading.sources

-- a fault of reading: only that was done, and a willing desk lacks a file that is read
pub record IsUnread {T : Type 0} (reading : Files → Reading T) (old new : Seen) : Type 0 where
  pub rose : Rose old.read_faults new.read_faults
  pub quiet : new.write_faults ≡ old.write_faults
  pub stays_willing : StaysWilling old.willing new.willing
  pub only : OnlyLeftDiffers old.content new.content
  pub lacks : IsTrue old.willing → IfSome old.content (λ c. AreThere c.files (reading c.files).sources) → ⊥

-- what a part that reads leaves of the desk: it read all, or it ended the run as its reading says, or was stopped on the way to
-- each outcome that the run may still have come to
abbrev pub ComesTo : {T : Type 0} → (Files → Reading T) → Result T End → Seen → Seen → Type 0
ComesTo reading (Ok value) old new = IsRead reading value old new
ComesTo reading (Err (ends.Said ending)) old new =
    Writes {T = Ending} (Ok ending) (λ told now. IfSome told (λ c. EndsThere old.strict (reading c.files) ending c now)) old new
ComesTo reading (Err ends.ReadFault) old new = IsUnread reading old new
ComesTo reading (Err (ends.Stopped stop)) old new =
    Writes {T = Ending} (Err stop)
    (λ told now. IfSome told (λ c. (o : Outcome) → MayComeTo (reading c.files).answer o → Stops o c now)) old new

-- a result, by what is seen of its value
abbrev pub with_value : {T U : Type 0} → (T → U) → Result T End → Result U End
with_value view (Ok x) = Ok (view x)
with_value view (Err end) = Err end

-- the same of a desk before and after, and of a result with such a value
abbrev pub DeskReads : {D T U : Type 0} → Ghosts D → (Files → Reading U) → (T → U) → D → D → Result T End → Type 0
DeskReads g reading view old new result = ComesTo reading (with_value view result) (seen g old) (seen g new)

-- and of a part that ends the run in each case
abbrev pub DeskEnds : {D : Type 0} → Ghosts D → (Files → Reading Outcome) → D → D → End → Type 0
DeskEnds g reading old new end = ComesTo (λ files. ending_of (reading files)) (Err end) (seen g old) (seen g new)
