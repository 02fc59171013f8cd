-- What a run comes to: a status, what is said, and the file that is written, by what it reads of the files that its words name.
use Rattle.std.specs.Prelude.{ℕ, List, length, codes, Option, Some, None, Ok, IfSome, ⊤}
use Rattle.dgn_desk.specs.Content.{Files, Content}
use Rattle.dgn_session.specs.State.{State}
use Rattle.elem_index.specs.Opened.{Opened}
use Rattle.dgn_answers.specs.Commands.{first_state}
use Rattle.dgn_answers.specs.Steps.{Step, texts_of, refused_count}
use Rattle.dgn_listing.specs.NumberedLines.{numbered}
use Rattle.dgn_tool.specs.Applied.{patched}
use Rattle.dgn_tool.specs.Ended.{Outcome, ended, said_then_filed, status_with}
use Rattle.dgn_tool.specs.FileAfter.{file_after}
use Rattle.dgn_tool.specs.Generation.{generation}
use Rattle.dgn_tool.specs.Inputs.{drawing_in, entries_in, inputs_in}
use Rattle.dgn_tool.specs.Leaving.{Leaves, Stops}
use Rattle.dgn_tool.specs.Packing.{packed}
use Rattle.dgn_tool.specs.Readings.{Reading, at_once, ◌>>=◌, ended_by, AreThere, AreInBytes}
use Rattle.dgn_tool.specs.Request.{Request, Edit, Check, Gen, Pack, Apply, request_of}
use Rattle.dgn_tool.specs.declared.status.Status.{Status}
use Rattle.dgn_tool.specs.declared.status.Status.TheVariants as statuses

-- what the steps come to in a state, with this tail: their texts, and the file of the drawing after them
abbrev pub edited_from : State → List ℕ → List Step → List ℕ → Outcome
edited_from s tail gs output = said_then_filed (status_with (refused_count gs s)) (texts_of gs s) output (file_after s tail gs)

-- and on a drawing
abbrev pub edited : Opened → List Step → List ℕ → Outcome
edited d gs output = edited_from (first_state d) d.tail gs output

-- what `check` comes to on a drawing
abbrev pub checked : Opened → Outcome
checked d = ended statuses.Done (numbered (codes "elements ") (length d.elements))

-- what is said where the words are of no form
abbrev pub usage_line : List ℕ
usage_line = codes "usage: dgnedit edit IN SCRIPT OUT, check IN, gen SEED COUNT OUT, pack IN SCRIPT PATCH, apply IN PATCH OUT\n"

-- what a run with this request reads, and what it comes to then
abbrev pub reading_of : Option Request → Files → Reading Outcome
reading_of None files = at_once (Ok (ended statuses.Usage usage_line))
reading_of (Some (Edit input script output)) files = do
  i ← inputs_in files input script
  at_once (Ok (edited i.drawing i.steps output))
reading_of (Some (Check input)) files = do
  d ← drawing_in files input
  at_once (Ok (checked d))
reading_of (Some (Gen seed count output)) files = at_once (Ok (generation seed count output))
reading_of (Some (Pack input script patch)) files = do
  i ← inputs_in files input script
  at_once (Ok (packed i.drawing i.steps patch))
reading_of (Some (Apply input patch output)) files = do
  d ← drawing_in files input
  es ← entries_in files patch
  at_once (Ok (patched d es output))

-- what it comes to, whether it reads all or ends before that
abbrev pub outcome_of : Option Request → Files → Outcome
outcome_of request files = ended_by (reading_of request files).answer

-- the files that it comes to read are there
abbrev pub HasFiles : Option Request → Files → Type 0
HasFiles request files = AreThere files (reading_of request files).sources

-- those that are within their limit are bytes
abbrev pub FilesInBytes : Option Request → Files → Type 0
FilesInBytes request files = AreInBytes files (reading_of request files).sources

-- what a run with these words comes to
abbrev pub outcome : List (List ℕ) → Files → Outcome
outcome words files = outcome_of (request_of words) files

-- a status that neither a fault nor want of memory made
abbrev pub IsEnding : Status → Type 0
IsEnding statuses.ReadFault = ⊥
IsEnding statuses.WriteFault = ⊥
IsEnding statuses.Memory = ⊥
IsEnding _ = ⊤

-- where a run came to an ending, over a desk that told what it holds, it ended with the outcome that its files have
abbrev pub EndsAs : Status → (Files → Outcome) → Option Content → Option Content → Type 0
EndsAs status o old now = IsEnding status → IfSome old (λ c. Leaves (o c.files) status c now)

-- a status that a fault of writing or want of memory made
abbrev pub IsStopped : Status → Type 0
IsStopped statuses.WriteFault = ⊤
IsStopped statuses.Memory = ⊤
IsStopped _ = ⊥

-- where a fault of writing or want of memory stopped a run, over a desk that told what it holds, it had come to a front
-- of the outcome that its files have
abbrev pub StoppedAs : Status → (Files → Outcome) → Option Content → Option Content → Type 0
StoppedAs status o old now = IsStopped status → IfSome old (λ c. Stops (o c.files) c now)

-- a status that no fault made: that of an ending, or Memory
abbrev pub IsFaultless : Status → Type 0
IsFaultless statuses.ReadFault = ⊥
IsFaultless statuses.WriteFault = ⊥
IsFaultless _ = ⊤

-- a request that reads a file
abbrev pub Reads : Option Request → Type 0
Reads None = ⊥
Reads (Some (Edit input script output)) = ⊤
Reads (Some (Check input)) = ⊤
Reads (Some (Gen seed count output)) = ⊥
Reads (Some (Pack input script patch)) = ⊤
Reads (Some (Apply input patch output)) = ⊤
