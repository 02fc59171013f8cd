-- How a run can end: with a line and no file, or with a text and a file, one before the other.
use Rattle.std.specs.Prelude.{ℕ, nat_lt, Bool, true, false, if◌then◌else◌, Option, Some, None, List}
use Rattle.dgn_tool.specs.declared.status.Status.{Status}
use Rattle.dgn_tool.specs.declared.status.Status.TheVariants as statuses

-- the status, the text that is said, the name and bytes of the file that is written, and the order: whether all is said
-- before the file is begun, or the file is whole before anything is said
pub record Outcome : Type 0 where
  pub status : Status
  pub text : List ℕ
  pub file : Option (List ℕ × List ℕ)
  pub says_first : Bool

-- an ending that says a line and writes nothing
abbrev pub ended : Status → List ℕ → Outcome
ended status line = record { status = status; text = line; file = None; says_first = true }

-- one that says a text and then writes a file of these bytes
abbrev pub said_then_filed : Status → List ℕ → List ℕ → List ℕ → Outcome
said_then_filed status text name bytes = record { status = status; text = text; file = Some (name, bytes); says_first = true }

-- one that writes a file of these bytes and then says a text
abbrev pub filed_then_said : Status → List ℕ → List ℕ → List ℕ → Outcome
filed_then_said status text name bytes = record { status = status; text = text; file = Some (name, bytes); says_first = false }

-- the status of a run of which so many commands were refused
abbrev pub status_with : ℕ → Status
status_with refused = if nat_lt 0 refused then statuses.SomeRefused else statuses.Done
