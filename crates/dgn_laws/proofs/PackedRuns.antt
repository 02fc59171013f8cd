-- What a run of `pack` and one of `apply` behind it leave.
use Rattle.std.proofs.Common.{◌≡◌, ◌≤◌, ℕ, List, length, nat_lt, Bool, true, false, cond, Option, Some, None, Ok, refl, sym, ap, ◌∙◌, subst, arith}
use Rattle.std.specs.Prelude.{All, codes}
use Rattle.std.proofs.lemmas.Bool.Decides.{nat_tests}
use Rattle.dgn_desk.specs.Content.{Files, Content, bytes_of, with_file}
use Rattle.dgn_desk.specs.FileLaws.{bytes_of-with_file-same}
use Rattle.dgn_drawing.specs.Opening.{Opens}
use Rattle.dgn_drawing.specs.WellFormed.{IsBytes}
use Rattle.dgn_drawing.specs.declared.command.Command.{Command}
use Rattle.dgn_drawing.specs.declared.limits.TheConstants.{MOST_DESIGN}
use Rattle.elem_index.specs.Opened.{Opened, opening}
use Rattle.elem_index.proofs.OpeningAnswers.{opens-opening}
use Rattle.patch_file.specs.Spelling.{Packed, patch_spelling}
use Rattle.patch_file.specs.Reading.{patch_of}
use Rattle.patch_file.specs.declared.limits.TheConstants.{MOST_PATCH}
use Rattle.patch_file.proofs.SpellingsRead.{patch_again}
use Rattle.dgn_answers.specs.Commands.{first_state}
use Rattle.dgn_answers.specs.Steps.{Step, refused_count}
use Rattle.dgn_tool.specs.Applied.{patched}
use Rattle.dgn_tool.specs.Ended.{Outcome, ended}
use Rattle.dgn_tool.specs.Inputs.{Inputs, drawing_in, entries_in}
use Rattle.dgn_tool.specs.Readings.{Reading, at_once, ◌>>=◌, IsInBytes, AreInBytes}
use Rattle.dgn_tool.specs.Leaving.{Leaves, files_after}
use Rattle.dgn_tool.specs.Request.{Request, Pack, Apply, request_of}
use Rattle.dgn_tool.specs.SecondFiles.{names_in, files_named}
use Rattle.dgn_tool.specs.declared.status.Status.{Status}
use Rattle.dgn_tool.specs.declared.status.Status.TheVariants as statuses
use Rattle.dgn_tool.specs.EditedRuns.{HasWritten, steps_with}
use Rattle.dgn_tool.specs.Laws.{IsEditIn}
use Rattle.dgn_tool.specs.Outcome.{reading_of, outcome_of, outcome, FilesInBytes}
use Rattle.dgn_tool.specs.Packing.{packed_after, packed, filed_patch}
use Rattle.dgn_tool.proofs.ScriptEdits.{scripts_hold_edits}
use Rattle.dgn_tool.proofs.EarlyEnds.{IsEarly, drawing_early, went_on}
use Rattle.dgn_tool.proofs.InputsRead.{IsOpened, drawing_parts, Went}
use Rattle.dgn_tool.proofs.ReadingsInTurn.{first_all}
use Rattle.dgn_tool.proofs.WrittenFiles.{is_ending, goes_on}
use Rattle.dgn_laws.specs.PatchLaws.{Applies, refused_at}
use Rattle.dgn_laws.specs.PackedRuns.{as_edited, Differs, AppliesPacked, PackedRunsApply}
use Rattle.dgn_laws.proofs.PackedAgain.{applied_gives_the_same}
use Rattle.dgn_laws.proofs.PatchesApplied.{refuses_where_one_differs, refuses_none_else}
use Rattle.dgn_laws.proofs.SameFile.{writes_the_same}

-- The run of `pack`.

-- where a patch file was written, it was within its limit and has these entries
record IsFiled (es : List Packed) (refused : ℕ) (patch : List ℕ) (o : Outcome) : Type 0 where
  few : length (patch_spelling es) ≤ MOST_PATCH
  filed : o ≡ filed_patch es refused patch

filed : (over : Bool) (es : List Packed) (refused : ℕ) (patch : List ℕ) → nat_lt MOST_PATCH (length (patch_spelling es)) ≡ over
    → HasWritten (cond over (ended statuses.TooLong (codes "too long patch\n")) (filed_patch es refused patch)).status
    → IsFiled es refused patch (cond over (ended statuses.TooLong (codes "too long patch\n")) (filed_patch es refused patch))
filed true es refused patch test written = absurd written
filed false es refused patch test written = record { few = grind (arith, nat_tests); filed = refl }

-- what a run that packed is known to have read, and what the patch file has then
record IsPacked (input script patch : List ℕ) (files mid : Files) : Type 0 where
  inputs : Inputs
  run : Went input script files inputs
  few : length (patch_spelling (packed_after (steps_with files run.commands) (first_state inputs.drawing))) ≤ MOST_PATCH
  packs : bytes_of mid patch ≡ patch_spelling (packed_after (steps_with files run.commands) (first_state inputs.drawing))

packs_so : (request : Option Request) (input script patch : List ℕ) (status : Status) (c m : Content) → request ≡ Some (Pack input script patch)
    → HasWritten status → Leaves (outcome_of request c.files) status c (Some m) → FilesInBytes request c.files → IsPacked input script patch c.files m.files
packs_so request input script patch status c m asked written leaves known =
    let same : outcome_of request c.files ≡ outcome_of (Some (Pack input script patch)) c.files = ap (λ (r : Option Request). outcome_of r c.files) asked in
    let such : HasWritten (outcome_of (Some (Pack input script patch)) c.files).status =
    subst (λ (o : Outcome). HasWritten o.status) same (subst HasWritten leaves.status_is written) in
    let w = goes_on input script c.files (λ i. packed i.drawing i.steps patch) (subst (λ (r : Option Request). FilesInBytes r c.files) asked known) such in
    let d = w.inputs.drawing in
    let gs : List Step = steps_with c.files w.went.commands in
    let es : List Packed = packed_after gs (first_state d) in
    let came = w.same ∙ ap (λ (x : List Step). packed d x patch) w.went.steps in
    let f = filed (nat_lt MOST_PATCH (length (patch_spelling es))) es (refused_count gs (first_state d)) patch refl
    (subst (λ (o : Outcome). HasWritten o.status) came such) in
    let told : m ≡ leaves.content = (let e = leaves.told_is in cc) in
    let left : m.files ≡ with_file patch (patch_spelling es) c.files =
    ap (λ (x : Content). x.files) told
    ∙ leaves.files_are
    ∙ ap (λ (o : Outcome). files_after o.file c.files) (same ∙ came ∙ f.filed) in
    record {
      inputs = w.inputs;
      run = w.went;
      few = f.few;
      packs = ap (λ (x : Files). bytes_of x patch) left ∙ bytes_of-with_file-same patch (patch_spelling es) c.files;
    }

-- The run of `apply`.

-- where a run refuses an entry, IN was within its limit and opened
refused_input : (input patch output : List ℕ) (files : Files) → AreInBytes files (reading_of (Some (Apply input patch output)) files).sources
    → (outcome_of (Some (Apply input patch output)) files).status ≡ statuses.PatchRefused → (d : Opened) × IsOpened files input d
refused_input input patch output files are is =
    let read : Reading Opened = drawing_in files input in
    let behind : Opened → Reading Outcome = λ d. entries_in files patch >>= λ es. at_once (Ok (patched d es output)) in
    let found = went_on (λ (s : Status). s ≡ statuses.PatchRefused) read.sources read.answer behind (drawing_early files input)
    (λ status early refused. subst IsEarly refused early) is in
    (found.0, drawing_parts files input found.0 found.1 (first_all behind (IsInBytes files) read.sources read.answer are))

module _ (input script patch other output : List ℕ) (c m : Content) (p : IsPacked input script patch c.files m.files) (words : List (List ℕ))
    (asked : request_of words ≡ Some (Apply other patch output)) (status : Status) (now : Option Content)
    (leaves : Leaves (outcome words m.files) status m now) (known : FilesInBytes (request_of words) m.files) where
  abbrev d : Opened
  d = p.inputs.drawing

  abbrev cs : List Command
  cs = p.run.commands

  abbrev es : List Packed
  es = packed_after (steps_with c.files cs) (first_state d)

  file : Opens (bytes_of c.files input) d.dim d.elements d.tail
  file = opens-opening (bytes_of c.files input) d p.run.opened.bytes_are p.run.opened.opens

  edits : All IsEditIn cs
  edits = scripts_hold_edits (bytes_of c.files script) cs p.run.script_bytes p.run.reads

  short : length (bytes_of m.files patch) ≤ MOST_PATCH
  short = subst (λ (b : List ℕ). length b ≤ MOST_PATCH) (sym p.packs) p.few

  reads : patch_of (bytes_of m.files patch) ≡ Ok es
  reads =
      let again = applied_gives_the_same (bytes_of c.files input) d cs (files_named (names_in cs) c.files) file p.run.opened.few edits p.run.seconds in
      ap patch_of p.packs ∙ patch_again es (again.entries p.few)

  -- the words ask to apply these entries to a drawing
  asks : (x : Opened) → length (bytes_of m.files other) ≤ MOST_DESIGN → opening (bytes_of m.files other) ≡ Ok x → Applies words m.files x es output
  asks x few opens = record { input = other; patch = patch; asked = asked; few = few; opens = opens; short = short; reads = reads }

  left_as : (o : Outcome) → outcome words m.files ≡ o → Leaves o status m now
  left_as o is = subst (λ (x : Outcome). Leaves x status m now) is leaves

  same_bytes : bytes_of m.files other ≡ bytes_of c.files input → Leaves (as_edited d cs c.files output) status m now
  same_bytes is =
      left_as (as_edited d cs c.files output)
      (writes_the_same words m.files d cs (files_named (names_in cs) c.files) output (record {
        input = other;
        patch = patch;
        asked = asked;
        bytes = subst IsBytes (sym is) p.run.opened.bytes_are;
        few = subst (λ (b : List ℕ). length b ≤ MOST_DESIGN) (sym is) p.run.opened.few;
        opens = ap opening is ∙ p.run.opened.opens;
        short = short;
        packed = p.packs;
      }) edits p.run.seconds)

  refuses : (k : ℕ) → Differs (bytes_of m.files other) es k → Leaves (refused_at k) status m now
  refuses k x = left_as (refused_at k) (refuses_where_one_differs words m.files x.drawing es output k (asks x.drawing x.few x.opens) x.at)

  refused_only : status ≡ statuses.PatchRefused → (k : ℕ) × Differs (bytes_of m.files other) es k × Leaves (refused_at k) status m now
  refused_only is =
      let refused : (outcome words m.files).status ≡ statuses.PatchRefused = sym leaves.status_is ∙ is in
      let so : outcome words m.files ≡ outcome_of (Some (Apply other patch output)) m.files = ap (λ (r : Option Request). outcome_of r m.files) asked in
      let opened = refused_input other patch output m.files (subst (λ (r : Option Request). FilesInBytes r m.files) asked known)
      (sym (ap (λ (o : Outcome). o.status) so) ∙ refused) in
      let x = opened.0 in
      let few = opened.1.few in
      let opens = opened.1.opens in
      let k = refuses_none_else words m.files x es output (asks x few opens) refused in
      (k.0, record { drawing = x; few = few; opens = opens; at = k.1 }, left_as (refused_at k.0) k.2)

  applies_packed : AppliesPacked input script patch other output c.files m status now
  applies_packed = record {
    drawing = d;
    commands = cs;
    opens = file;
    reads = p.run.reads;
    packs = p.packs;
    same = same_bytes;
    differs = refuses;
    only = refused_only;
  }

pub packed_runs_apply : PackedRunsApply
packed_runs_apply pack apply input script patch other output packed applied None mid now asked ran written wanted went ending = tt
packed_runs_apply pack apply input script patch other output packed applied (Some c) None now asked ran written wanted went ending = tt
packed_runs_apply pack apply input script patch other output packed applied (Some c) (Some m) now asked ran written wanted went ending =
    let ended_so = is_ending packed written in
    applies_packed input script patch other output c m
    (packs_so (request_of pack) input script patch packed c m asked written (ran.outcome_is ended_so) (ran.bytes ended_so))
    apply wanted applied now (went.outcome_is ending) (went.bytes ending)
