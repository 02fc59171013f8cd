-- Reading in a run: which files are read, in order, and what that gives. Where it can't go on, it gives the outcome with which
-- the run ends there, and nothing behind it is read.
use Rattle.std.specs.Prelude.{ℕ, ◌≡◌, ◌≤◌, nat_lt, if◌then◌else◌, Bool, List, [], ◌∷◌, ◌++◌, length, Result, Ok, Err, IsSome, IsTrue, ⊤}
use Rattle.std.specs.FinMap as maps
use Rattle.std.specs.List.{AllByRecursion}
use Rattle.dgn_desk.specs.Content.{Files, bytes_of}
use Rattle.dgn_drawing.specs.WellFormed.{IsBytes}
use Rattle.dgn_tool.specs.Ended.{Outcome, ended}
use Rattle.dgn_tool.specs.declared.status.Status.TheVariants as statuses

-- a file that is read: its name, and how many bytes it may have
pub record Source : Type 0 where
  pub name : List ℕ
  pub limit : ℕ

-- the files that are read, in order, and what they give: a value, or the outcome with which the run ends there
pub record Reading (T : Type 0) : Type 0 where
  pub sources : List Source
  pub answer : Result T Outcome

-- an answer for which no file is read
abbrev pub at_once : {T : Type 0} → Result T Outcome → Reading T
at_once answer = record { sources = []; answer = answer }

-- what is read behind these files, where these gave that answer
abbrev pub behind_sources : {A B : Type 0} → List Source → Result A Outcome → (A → Reading B) → Reading B
behind_sources before (Ok x) next = record { sources = before ++ (next x).sources; answer = (next x).answer }
behind_sources before (Err o) next = record { sources = before; answer = Err o }

-- reading on, by what was read first
infixl 10 ◌>>=◌
abbrev pub ◌>>=◌ : {A B : Type 0} → Reading A → (A → Reading B) → Reading B
first >>= next = behind_sources first.sources first.answer next

-- the named file, whole; one that has more bytes than it may ends the run with this line
abbrev pub file_in : Files → List ℕ → ℕ → List ℕ → Reading (List ℕ)
file_in files name limit line = record {
  sources = record { name = name; limit = limit } ∷ [];
  answer = if nat_lt limit (length (bytes_of files name)) then Err (ended statuses.TooLong line) else Ok (bytes_of files name);
}

-- the outcome of a run that read so, and goes on to one where it reads all
abbrev pub ended_by : Result Outcome Outcome → Outcome
ended_by (Ok o) = o
ended_by (Err o) = o

-- such a reading, as one that ends the run
abbrev pub ending_of : Reading Outcome → Reading Outcome
ending_of reading = record { sources = reading.sources; answer = Err (ended_by reading.answer) }

-- the outcomes that a run may come to that read so far: the one with which it ended there, or any
abbrev pub MayComeTo : {T : Type 0} → Result T Outcome → Outcome → Type 0
MayComeTo (Ok x) o = ⊤
MayComeTo (Err end) o = end ≡ o

-- the file is there
abbrev pub IsThere : Files → Source → Type 0
IsThere files source = IsSome (maps.get files source.name)

-- it is bytes, where it is within its limit: of a longer one no more is read than shows that it is longer
abbrev pub IsInBytes : Files → Source → Type 0
IsInBytes files source = length (bytes_of files source.name) ≤ source.limit → IsBytes (bytes_of files source.name)

-- each file is there
abbrev pub AreThere : Files → List Source → Type 0
AreThere files sources = AllByRecursion (IsThere files) sources

-- each is in bytes
abbrev pub AreInBytes : Files → List Source → Type 0
AreInBytes files sources = AllByRecursion (IsInBytes files) sources

-- it is so, and a strict desk has it
abbrev pub IsGiven : Bool → Files → Source → Type 0
IsGiven strict files source = IsInBytes files source × (IsTrue strict → IsThere files source)

-- each is so
abbrev pub AreGiven : Bool → Files → List Source → Type 0
AreGiven strict files sources = AllByRecursion (IsGiven strict files) sources
