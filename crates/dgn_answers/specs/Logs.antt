-- What running a step came to, and what the session's log holds then of the edits that are left.
use Rattle.std.specs.Prelude.{◌≡◌, ◌++◌, ℕ, List, map, reverse, Result, IfOk, OnOk, OnErr}
use Rattle.std.specs.declared.alloc.AllocError.{AllocError}
use Rattle.undo_log.specs.declared.entry.Entry.{Entry}
use Rattle.dgn_listing.specs.Lines.{AppendsFrontOf}
use Rattle.dgn_session.specs.State.{SessionValue, state_of, entry_with}
use Rattle.dgn_answers.specs.declared.answered.Answered.{Answered}
use Rattle.dgn_answers.specs.Remaining.{RemainingEdit, fields_made}
use Rattle.dgn_answers.specs.Answer.{Answer}
use Rattle.dgn_answers.specs.Steps.{Step, with_steps}

-- the log's entry of an edit that is left: the bytes that stood in the fields that it wrote, and how many there were
abbrev pub entry_made : ℕ → RemainingEdit → Entry
entry_made dim m = entry_with m.on (fields_made dim m.on m.kind)

-- the entries of these edits, which stand the newest first
abbrev pub IsLogOf : SessionValue → List RemainingEdit → Type 0
IsLogOf v left = reverse v.entries ≡ map (entry_made v.dim) left

-- the log changes as the edits that are left do
abbrev pub LogsAs : (List RemainingEdit → List RemainingEdit) → SessionValue → SessionValue → Type 0
LogsAs change old new = (left : List RemainingEdit) → IsLogOf old left → IsLogOf new (change left)

-- so it is with steps, the first one first
abbrev pub AllLogAs : List Step → SessionValue → SessionValue → Type 0
AllLogAs gs old new = LogsAs (with_steps gs (state_of old)) old new

-- the step was run and its text appended; where there is no memory, the session is as before, and a front of the text is
-- appended
pub record Answers (came : Result Answered AllocError) (a : Answer) (old new : SessionValue) (before after : List ℕ) : Type 0 where
  pub text : OnOk came (after ≡ before ++ a.text)
  pub refused : IfOk came (λ answered. answered.refused ≡ a.refused)
  pub trees : IfOk came (λ answered. answered.trees ≡ a.trees)
  pub state : OnOk came (state_of new ≡ a.state)
  pub logged : OnOk came (LogsAs a.left old new)
  pub tail : new.tail ≡ old.tail
  pub kept : OnErr came (new ≡ old)
  pub front : OnErr came (AppendsFrontOf a.text before after)
