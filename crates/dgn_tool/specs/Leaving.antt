-- What a run leaves of the content that its desk told, by the outcome that it came to.
use Rattle.std.specs.Prelude.{ℕ, ◌≡◌, ◌⊎◌, Bool, true, false, List, [], ◌++◌, Option, Some, None}
use Rattle.std.specs.Prelude.{Result, Ok, Err, option_map, if◌then◌else◌}
use Rattle.dgn_desk.specs.Content.{Files, Content, all_said, with_file, spoken}
use Rattle.dgn_desk.specs.declared.stop.Stop.{Stop}
use Rattle.dgn_tool.specs.Ended.{Outcome}
use Rattle.dgn_tool.specs.declared.status.Status.{Status}

-- the files after a run
abbrev pub files_after : Option (List ℕ × List ℕ) → Files → Files
files_after None files = files
files_after (Some file) files = with_file file.0 file.1 files

-- what was said when the file was begun: all of the text, or nothing of it
abbrev pub said_before_file : Outcome → List ℕ
said_before_file o = if o.says_first then o.text else []

-- what was said before the last file was begun: where the outcome writes one, what was said before the run and before that file
abbrev pub settled_after : Outcome → Option (List ℕ × List ℕ) → Content → List ℕ
settled_after o None old = old.settled
settled_after o (Some file) old = all_said old ++ said_before_file o

-- a run over a desk that told this content ended so: with the outcome's status, its text said and its file written, each
-- when the outcome says it
pub record Leaves (o : Outcome) (status : Status) (old : Content) (now : Option Content) : Type 0 where
  pub status_is : status ≡ o.status
  pub content : Content
  pub told_is : now ≡ Some content
  pub said_is : all_said content ≡ all_said old ++ o.text
  pub files_are : content.files ≡ files_after o.file old.files
  pub settled_is : content.settled ≡ settled_after o o.file old

-- bytes that these begin with: some first ones of them, none and all among them
abbrev pub IsFrontOf : List ℕ → List ℕ → Type 0
IsFrontOf whole front = (rest : List ℕ) × (whole ≡ front ++ rest)

-- a front of this text was said, and nothing else changed
abbrev pub SaysFront : List ℕ → Option Content → Option Content → Type 0
SaysFront text old now = (front : List ℕ) × IsFrontOf text front × (now ≡ option_map (spoken front) old)

-- all of this text was said, or, where that stopped, a front of it; and nothing else changed
abbrev pub SaysAs : {T : Type 0} → Result T Stop → List ℕ → Option Content → Option Content → Type 0
SaysAs (Ok x) text old now = now ≡ option_map (spoken text) old
SaysAs (Err stop) text old now = SaysFront text old now

-- the file that is to be written is as it was, or it holds a front of its bytes; and no other file changed
abbrev pub HoldsFront : Option (List ℕ × List ℕ) → Files → Files → Type 0
HoldsFront None old now = now ≡ old
HoldsFront (Some file) old now = (now ≡ old) ⊎ ((front : List ℕ) × IsFrontOf file.1 front × (now ≡ with_file file.0 front old))

-- what is said and what is written come in their order: where all is said first, the file isn't begun before that, and
-- else nothing is said before the file is whole
abbrev pub InOrder : Bool → List ℕ → List ℕ → Option (List ℕ × List ℕ) → Files → Files → Type 0
InOrder true text front file old now = (front ≡ text) ⊎ (now ≡ old)
InOrder false text front file old now = (front ≡ []) ⊎ (now ≡ files_after file old)

-- no file was begun, or the one that the outcome writes was, once so much of its text had been said
abbrev pub IsBegun : Outcome → Option (List ℕ × List ℕ) → Content → Content → Type 0
IsBegun o None old now = now.settled ≡ old.settled
IsBegun o (Some file) old now =
    ((now.files ≡ old.files) × (now.settled ≡ old.settled)) ⊎ (now.settled ≡ all_said old ++ said_before_file o)

-- a run over a desk that told this content stopped so: a front of the outcome's text was said, of the file that it writes
-- there is a front, or the file as it was, and both came in the outcome's order
pub record Stops (o : Outcome) (old : Content) (now : Option Content) : Type 0 where
  pub content : Content
  pub told_is : now ≡ Some content
  pub front : List ℕ
  pub is_front : IsFrontOf o.text front
  pub said_is : all_said content ≡ all_said old ++ front
  pub files_are : HoldsFront o.file old.files content.files
  pub in_order : InOrder o.says_first o.text front o.file old.files content.files
  pub begun_is : IsBegun o o.file old content
