-- What holds of every drawing that opens and every patch file that reads, each the contract of a function in `laws`.
use Rattle.std.specs.Prelude.{ℕ, ◌≡◌, ◌≤◌, List, ◌++◌, length, All, Ok}
use Rattle.patch_file.specs.Spelling.{AreEntries, patch_spelling}
use Rattle.patch_file.specs.Standing.{AllStand, put_all}
use Rattle.dgn_drawing.specs.Spelling.{spelling}
use Rattle.dgn_drawing.specs.Opening.{Opens}
use Rattle.dgn_drawing.specs.WellFormed.{IsBytes}
use Rattle.dgn_session.specs.State.{State}
use Rattle.dgn_drawing.specs.declared.command.Command.{Command}
use Rattle.elem_index.specs.Opened.{Opened}
use Rattle.dgn_answers.specs.Commands.{first_state}
use Rattle.dgn_answers.specs.Steps.{Step, after_all}
use Rattle.dgn_tool.specs.Applied.{AllFit}
use Rattle.dgn_tool.specs.Packing.{packed_after}
use Rattle.dgn_drawing.specs.declared.limits.TheConstants.{MOST_DESIGN}
use Rattle.patch_file.specs.declared.limits.TheConstants.{MOST_PATCH}
use Rattle.std.specs.Prelude.{ℕ, ◌≡◌, ◌+◌, ◌≤◌, List, ◌∷◌, ◌++◌, length, codes, false, Some, Ok, All}
use Rattle.dgn_desk.specs.Content.{Files, bytes_of}
use Rattle.elem_index.specs.Opened.{Opened, opening}
use Rattle.patch_file.specs.Spelling.{Packed, patch_spelling}
use Rattle.patch_file.specs.Reading.{patch_of}
use Rattle.patch_file.specs.Standing.{Stands, AllStand, put_all}
use Rattle.dgn_tool.specs.Filling.{file_made}
use Rattle.dgn_listing.specs.NumberedLines.{numbered}
use Rattle.dgn_tool.specs.Request.{Apply, request_of}
use Rattle.dgn_tool.specs.Ended.{Outcome, ended, filed_then_said}
use Rattle.dgn_answers.specs.Steps.{Step}
use Rattle.dgn_tool.specs.Laws.{IsEditIn, steps_of_files}
use Rattle.dgn_tool.specs.Outcome.{edited, outcome}
use Rattle.dgn_tool.specs.declared.status.Status.TheVariants as statuses

-- the packed entries of the steps stand, one after the other, on the elements of the file, and make of them those after
-- the steps; what each makes keeps the limit; and where their patch file does, it is read to them again
pub record PacksAgain (s : State) (t : List ℕ) (gs : List Step) : Type 0 where
  pub stand : AllStand (spelling s.top) (packed_after gs s)
  pub gives : put_all (spelling s.top) (packed_after gs s) ≡ spelling (after_all gs s).top
  pub fit : AllFit (length t) (spelling s.top) (packed_after gs s)
  pub entries : length (patch_spelling (packed_after gs s)) ≤ MOST_PATCH → AreEntries (packed_after gs s)

abbrev pub AppliedGivesTheSame : Type 0
AppliedGivesTheSame =
    (f : List ℕ) (d : Opened) (cs : List Command) (files : List (List ℕ))
    → Opens f d.dim d.elements d.tail → length f ≤ MOST_DESIGN → All IsEditIn cs → All IsBytes files
    → PacksAgain (first_state d) d.tail (steps_of_files cs files)

-- entry k, counted from 1, is the first that doesn't stand on what those before it made, and these keep the limit
pub record DiffersAt (tail : ℕ) (b : List ℕ) (es : List Packed) (k : ℕ) : Type 0 where
  pub before : List Packed
  pub entry : Packed
  pub behind : List Packed
  pub parts : es ≡ before ++ entry ∷ behind
  pub number : k ≡ 1 + length before
  pub stand : AllStand b before
  pub fit : AllFit tail b before
  pub differs : ¬ Stands (put_all b before) entry

-- the words ask to apply a patch file of these entries to a file that opens as this drawing, into OUT
pub record Applies (words : List (List ℕ)) (files : Files) (d : Opened) (es : List Packed) (output : List ℕ) : Type 0 where
  pub input : List ℕ
  pub patch : List ℕ
  pub asked : request_of words ≡ Some (Apply input patch output)
  pub few : length (bytes_of files input) ≤ MOST_DESIGN
  pub opens : opening (bytes_of files input) ≡ Ok d
  pub short : length (bytes_of files patch) ≤ MOST_PATCH
  pub reads : patch_of (bytes_of files patch) ≡ Ok es

-- the outcome that refuses entry k: it has no file
abbrev pub refused_at : ℕ → Outcome
refused_at k = ended statuses.PatchRefused (numbered (codes "refused entry ") k)

-- a run refuses entry k where that is the first that doesn't stand
abbrev pub RefusesWhereOneDiffers : Type 0
RefusesWhereOneDiffers =
    (words : List (List ℕ)) (files : Files) (d : Opened) (es : List Packed) (output : List ℕ) (k : ℕ)
    → Applies words files d es output → DiffersAt (length d.tail) (spelling d.elements) es k
    → outcome words files ≡ refused_at k

-- and it refuses none else
abbrev pub RefusesNoneElse : Type 0
RefusesNoneElse =
    (words : List (List ℕ)) (files : Files) (d : Opened) (es : List Packed) (output : List ℕ)
    → Applies words files d es output → (outcome words files).status ≡ statuses.PatchRefused
    → (k : ℕ) × DiffersAt (length d.tail) (spelling d.elements) es k × (outcome words files ≡ refused_at k)

-- where all entries stand and keep the limit, it writes what they make of the drawing
abbrev pub AppliesAll : Type 0
AppliesAll =
    (words : List (List ℕ)) (files : Files) (d : Opened) (es : List Packed) (output : List ℕ)
    → Applies words files d es output → AllStand (spelling d.elements) es → AllFit (length d.tail) (spelling d.elements) es
    → outcome words files
    ≡ filed_then_said statuses.Done (numbered (codes "applied ") (length es)) output
    (file_made (length (spelling d.elements)) d.tail (put_all (spelling d.elements) es))

-- the words ask to apply what `pack` makes of these steps to the same file, into OUT
pub record AppliesPacked (words : List (List ℕ)) (files : Files) (d : Opened) (gs : List Step) (output : List ℕ) : Type 0 where
  pub input : List ℕ
  pub patch : List ℕ
  pub asked : request_of words ≡ Some (Apply input patch output)
  pub bytes : IsBytes (bytes_of files input)
  pub few : length (bytes_of files input) ≤ MOST_DESIGN
  pub opens : opening (bytes_of files input) ≡ Ok d
  pub short : length (bytes_of files patch) ≤ MOST_PATCH
  pub packed : bytes_of files patch ≡ patch_spelling (packed_after gs (first_state d))

-- it writes the file that `edit` writes with these commands and second files
abbrev pub WritesTheSame : Type 0
WritesTheSame =
    (words : List (List ℕ)) (files : Files) (d : Opened) (cs : List Command) (seconds : List (List ℕ)) (output : List ℕ)
    → AppliesPacked words files d (steps_of_files cs seconds) output → All IsEditIn cs → All IsBytes seconds
    → outcome words files
    ≡ record {
      status = statuses.Done;
      text = numbered (codes "applied ") (length (packed_after (steps_of_files cs seconds) (first_state d)));
      file = (edited d (steps_of_files cs seconds) output).file;
      says_first = false;
    }
