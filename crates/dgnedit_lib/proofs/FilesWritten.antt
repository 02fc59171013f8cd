-- Each outcome writes the file that the last of four words names, where it ends as done or with some refused, and else none.
use Rattle.std.proofs.Common.{◌≡◌, ℕ, nat_lt, Bool, true, false, not, if◌then◌else◌, List, [], ◌∷◌, length, codes}
use Rattle.std.proofs.Common.{Option, Some, None, option_map, Result, Ok, Err, refl, sym, ap, ◌∙◌, subst}
use Rattle.std.specs.Str.{bytes_eq}
use Rattle.dgn_desk.specs.Content.{Files}
use Rattle.dgn_desk.specs.FileLaws.{get-with_file-same}
use Rattle.elem_index.specs.Opened.{Opened}
use Rattle.dgn_drawing.specs.Spelling.{spelling}
use Rattle.patch_file.specs.Spelling.{Packed, patch_spelling}
use Rattle.dgn_tool.specs.Applied.{patched, patched_outcome, put_from, Patched, Made, Differs, Overruns}
use Rattle.dgn_tool.specs.Ended.{Outcome, ended}
use Rattle.dgn_tool.specs.declared.status.Status.{Status}
use Rattle.dgn_listing.specs.NumberedLines.{numbered}
use Rattle.patch_file.specs.declared.limits.TheConstants.{MOST_PATCH}
use Rattle.dgn_tool.specs.Inputs.{Inputs, drawing_in, entries_in, inputs_in}
use Rattle.dgn_tool.specs.Leaving.{files_after}
use Rattle.dgn_tool.specs.Readings.{Source, Reading, at_once, behind_sources, ◌>>=◌, ended_by}
use Rattle.dgn_tool.specs.Request.{Request, Edit, Check, Gen, Pack, Apply, request_of, four_words}
use Rattle.dgn_tool.specs.declared.status.Status.TheVariants as statuses
use Rattle.dgn_tool.specs.Outcome.{outcome, outcome_of, checked, edited, usage_line}
use Rattle.dgn_tool.specs.Packing.{packed, packed_after, filed_patch}
use Rattle.dgn_answers.specs.Commands.{first_state}
use Rattle.dgn_answers.specs.Steps.{Step, refused_count}
use Rattle.dgn_tool.proofs.EarlyEnds.{IsEarly, EndsEarly, drawing_early, inputs_early, entries_early}
use Rattle.dgnedit_lib.proofs.Forms.{either, of_four}
use Rattle.dgnedit_lib.specs.Writing.{last_of_four, has_written, name_written, bytes_at}

-- an outcome that writes the file of this name where it has written one, if there is a name
record WritesAt (name : Option (List ℕ)) (o : Outcome) : Type 0 where
  writes : option_map (λ f. f.0) o.file ≡ name_written (has_written o.status) name

-- an ending that says a line writes nothing
said : (name : Option (List ℕ)) (status : Status) (line : List ℕ) → has_written status ≡ false → WritesAt name (ended status line)
said name status line not = record { writes = sym (ap (λ w. name_written w name) not) }

-- no outcome with which reading ends a run has written
unwritten : (status : Status) → IsEarly status → has_written status ≡ false
unwritten statuses.Done early = absurd early
unwritten statuses.SomeRefused early = absurd early
unwritten _ early = refl

-- whatever is read first
read_writes : {A : Type 0} (name : Option (List ℕ)) (before : List Source) (r : Result A Outcome) (next : A → Reading Outcome) → EndsEarly r
    → ((x : A) → WritesAt name (ended_by (next x).answer)) → WritesAt name (ended_by (behind_sources before r next).answer)
read_writes name before (Ok x) next early goes = goes x
read_writes name before (Err o) next early goes =
    subst (WritesAt name) (sym early.is) (said name early.status early.line (unwritten early.status early.early))

inputs_write : (name : Option (List ℕ)) (input script : List ℕ) (files : Files) (f : Inputs → Outcome) → ((i : Inputs) → WritesAt name (f i))
    → WritesAt name (ended_by (inputs_in files input script >>= λ i. at_once (Ok (f i))).answer)
inputs_write name input script files f goes =
    read_writes name (inputs_in files input script).sources (inputs_in files input script).answer (λ i. at_once (Ok (f i)))
    (inputs_early files input script) goes

-- a run that came to its end has written
ends_written : (b : Bool) → has_written (if b then statuses.SomeRefused else statuses.Done) ≡ true
ends_written true = refl
ends_written false = refl

edited_writes : (d : Opened) (gs : List Step) (output : List ℕ) → WritesAt (Some output) (edited d gs output)
edited_writes d gs output = record { writes = sym (ap (λ w. name_written w (Some output)) (ends_written (nat_lt 0 (refused_count gs (first_state d))))) }

packed_writes : (d : Opened) (gs : List Step) (patch : List ℕ) → WritesAt (Some patch) (packed d gs patch)
packed_writes d gs patch =
    either (WritesAt (Some patch)) (nat_lt MOST_PATCH (length (patch_spelling (packed_after gs (first_state d))))) (ended statuses.TooLong (codes "too long patch\n"))
    (filed_patch (packed_after gs (first_state d)) (refused_count gs (first_state d)) patch) (said (Some patch) statuses.TooLong _ refl)
    (record { writes = sym (ap (λ w. name_written w (Some patch)) (ends_written (nat_lt 0 (refused_count gs (first_state d))))) })

-- whatever a patch file makes
made_writes : (before : ℕ) (tail : List ℕ) (count : ℕ) (made : Patched) (output : List ℕ)
    → WritesAt (Some output) (patched_outcome before tail count made output)
made_writes before tail count (Made b) output = record { writes = refl }
made_writes before tail count (Differs k) output = said (Some output) statuses.PatchRefused (numbered (codes "refused entry ") k) refl
made_writes before tail count Overruns output = said (Some output) statuses.TooLong (codes "too long design\n") refl

patched_writes : (d : Opened) (es : List Packed) (output : List ℕ) → WritesAt (Some output) (patched d es output)
patched_writes d es output =
    made_writes (length (spelling d.elements)) d.tail (length es) (put_from (length d.tail) 1 (spelling d.elements) es) output

-- the name of the file that a request writes
abbrev Names : Option Request → Option (List ℕ) → Type 0
Names None name = Unit {0}
Names (Some (Edit input script output)) name = name ≡ Some output
Names (Some (Check input)) name = name ≡ None
Names (Some (Gen seed count output)) name = name ≡ Some output
Names (Some (Pack input script patch)) name = name ≡ Some patch
Names (Some (Apply input patch output)) name = name ≡ Some output

-- an outcome that writes at one name writes at each that is the same
at_same : (x y : Option (List ℕ)) (o : Outcome) → x ≡ y → WritesAt y o → WritesAt x o
at_same x y o same at = record { writes = at.writes ∙ ap (name_written (has_written o.status)) (sym same) }

request_writes : (r : Option Request) (name : Option (List ℕ)) (files : Files) → Names r name → WritesAt name (outcome_of r files)
request_writes None name files names = said name statuses.Usage usage_line refl
request_writes (Some (Edit input script output)) name files names =
    at_same _ _ _ names (inputs_write (Some output) input script files (λ i. edited i.drawing i.steps output) (λ i. edited_writes i.drawing i.steps output))
request_writes (Some (Check input)) name files names =
    at_same _ _ _ names
    (read_writes None (drawing_in files input).sources (drawing_in files input).answer (λ d. at_once (Ok (checked d))) (drawing_early files input)
    (λ d. record { writes = refl }))
request_writes (Some (Gen seed count output)) name files names = at_same _ _ _ names (record { writes = refl })
request_writes (Some (Pack input script patch)) name files names =
    at_same _ _ _ names (inputs_write (Some patch) input script files (λ i. packed i.drawing i.steps patch) (λ i. packed_writes i.drawing i.steps patch))
request_writes (Some (Apply input patch output)) name files names =
    let drawing : Reading Opened = drawing_in files input in
    let entries : Reading (List Packed) = entries_in files patch in
    at_same _ _ _ names
    (read_writes (Some output) drawing.sources drawing.answer (λ d. entries >>= λ es. at_once (Ok (patched d es output))) (drawing_early files input)
    (λ d. read_writes (Some output) entries.sources entries.answer (λ es. at_once (Ok (patched d es output))) (entries_early files patch)
    (λ es. patched_writes d es output)))

four_name : (a b c d : List ℕ) → Names (four_words a b c d) (Some d)
four_name a b c d = of_four (λ r. Names r (Some d)) a b c d tt refl refl refl (λ seed count. refl)

words_name : (words : List (List ℕ)) → Names (request_of words) (last_of_four words)
words_name [] = tt
words_name (a ∷ []) = tt
words_name (a ∷ b ∷ []) = either (λ r. Names r None) (bytes_eq a (codes "check")) (Some (Check b)) None refl tt
words_name (a ∷ b ∷ c ∷ []) = tt
words_name (a ∷ b ∷ c ∷ d ∷ []) = four_name a b c d
words_name (a ∷ b ∷ c ∷ d ∷ e ∷ more) = tt

-- the outcome of words writes the file that the last of four of them names, where it has written one
pub outcome_writes : (words : List (List ℕ)) (files : Files)
    → option_map (λ f. f.0) (outcome words files).file ≡ name_written (has_written (outcome words files).status) (last_of_four words)
outcome_writes words files = (request_writes (request_of words) (last_of_four words) files (words_name words)).writes

-- of the files after an outcome, that of this name has the bytes that it writes
pub bytes_written : (file : Option (List ℕ × List ℕ)) (name : Option (List ℕ)) (old new : Files) → option_map (λ f. f.0) file ≡ name
    → new ≡ files_after file old → bytes_at name new ≡ option_map (λ f. f.1) file
bytes_written None name old new names after = ap (λ n. bytes_at n new) (sym names)
bytes_written (Some file) name old new names after =
    ap (λ n. bytes_at n new) (sym names) ∙ ap (λ fs. bytes_at (Some file.0) fs) after ∙ get-with_file-same file.0 file.1 old
