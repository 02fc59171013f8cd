-- What a run that applies a patch file comes to, by which of its entries stand.
use Rattle.std.proofs.Common.{◌≡◌, ◌≤◌, List, ℕ, length, Ok, refl, sym, ap, ◌∙◌}
use Rattle.std.specs.Prelude.{codes}
use Rattle.dgn_desk.specs.Content.{Files, bytes_of}
use Rattle.dgn_drawing.specs.Spelling.{spelling}
use Rattle.elem_index.specs.Opened.{Opened, opening}
use Rattle.patch_file.specs.Spelling.{Packed}
use Rattle.patch_file.specs.Reading.{patch_of}
use Rattle.patch_file.specs.Standing.{put_all}
use Rattle.patch_file.specs.declared.limits.TheConstants.{MOST_PATCH}
use Rattle.dgn_drawing.specs.declared.limits.TheConstants.{MOST_DESIGN}
use Rattle.dgn_tool.specs.Applied.{Patched, Made, Differs, Overruns, put_from, patched_outcome, entries_outcome, patched}
use Rattle.dgn_tool.specs.Ended.{Outcome}
use Rattle.dgn_tool.specs.Inputs.{design_in, drawing_opened, drawing_in, entries_read, entries_in}
use Rattle.dgn_tool.specs.Readings.{Reading, at_once, file_in, ◌>>=◌, ended_by}
use Rattle.dgn_tool.specs.Outcome.{outcome_of, outcome}
use Rattle.dgn_laws.specs.PatchLaws.{Applies, RefusesWhereOneDiffers, RefusesNoneElse, AppliesAll}
use Rattle.dgn_tool.specs.declared.status.Status.TheVariants as statuses
use Rattle.dgn_tool.proofs.FilesRead.{file_gives}
use Rattle.dgn_tool.proofs.ReadingsInTurn.{on_value}
use Rattle.dgn_laws.proofs.EntriesInOrder.{where_one_differs, one_differs, all_made}
use Rattle.dgn_tool.proofs.PatchOutcomes.{entries_made}

-- Laws.

-- a file within its limit that opens gives its drawing
drawing_gives : (files : Files) (input : List ℕ) (d : Opened) → length (bytes_of files input) ≤ MOST_DESIGN → opening (bytes_of files input) ≡ Ok d
    → (drawing_in files input).answer ≡ Ok d
drawing_gives files input d few opens =
    ap (λ (x : Reading Opened). x.answer) (on_value (λ bytes. at_once (drawing_opened (opening bytes))) (design_in files input) (bytes_of files input)
    (file_gives files input MOST_DESIGN (codes "too long design\n") (bytes_of files input) few refl))
    ∙ ap drawing_opened opens

-- and one that reads gives its entries
entries_give : (files : Files) (patch : List ℕ) (es : List Packed) → length (bytes_of files patch) ≤ MOST_PATCH → patch_of (bytes_of files patch) ≡ Ok es
    → (entries_in files patch).answer ≡ Ok es
entries_give files patch es few reads =
    ap (λ (x : Reading (List Packed)). x.answer) (on_value (λ bytes. at_once (entries_read (length bytes) (patch_of bytes)))
    (file_in files patch MOST_PATCH (codes "too long patch\n")) (bytes_of files patch)
    (file_gives files patch MOST_PATCH (codes "too long patch\n") (bytes_of files patch) few refl))
    ∙ ap (entries_read (length (bytes_of files patch))) reads

-- a run that applies entries to a drawing comes to what these come to on it
applies : (words : List (List ℕ)) (files : Files) (d : Opened) (es : List Packed) (output : List ℕ) → Applies words files d es output
    → outcome words files ≡ entries_outcome (spelling d.elements) d.tail es output
applies words files d es output a =
    let behind_entries : Opened → List Packed → Reading Outcome = λ x ps. at_once (Ok (patched x ps output)) in
    let behind_input : Opened → Reading Outcome = λ x. entries_in files a.patch >>= behind_entries x in
    ap (λ request. outcome_of request files) a.asked
    ∙ ap (λ (x : Reading Outcome). ended_by x.answer) (on_value behind_input (drawing_in files a.input) d (drawing_gives files a.input d a.few a.opens))
    ∙ ap (λ (x : Reading Outcome). ended_by x.answer) (on_value (behind_entries d) (entries_in files a.patch) es
    (entries_give files a.patch es a.short a.reads))

pub refuses_where_one_differs : RefusesWhereOneDiffers
refuses_where_one_differs words files d es output k a at =
    applies words files d es output a
    ∙ entries_made (spelling d.elements) d.tail output es (Differs k) (where_one_differs (length d.tail) (spelling d.elements) es k at)

pub applies_all : AppliesAll
applies_all words files d es output a stand fit =
    applies words files d es output a
    ∙ entries_made (spelling d.elements) d.tail output es (Made (put_all (spelling d.elements) es))
    (all_made (length d.tail) 1 (spelling d.elements) es stand fit)

-- an outcome that refuses an entry is that of one that differs
refused_so : (before : ℕ) (tail : List ℕ) (count : ℕ) (p : Patched) (output : List ℕ)
    → (patched_outcome before tail count p output).status ≡ statuses.PatchRefused → (k : ℕ) × (p ≡ Differs k)
refused_so before tail count (Made b) output is = absurd (cc)
refused_so before tail count (Differs k) output is = (k, refl)
refused_so before tail count Overruns output is = absurd (cc)

pub refuses_none_else : RefusesNoneElse
refuses_none_else words files d es output a is =
    let same = applies words files d es output a in
    let made : Patched = put_from (length d.tail) 1 (spelling d.elements) es in
    let so = refused_so (length (spelling d.elements)) d.tail (length es) made output (sym (ap (λ (o : Outcome). o.status) same) ∙ is) in
    let at = one_differs (length d.tail) (spelling d.elements) es so.0 so.1 in
    (so.0, at, refuses_where_one_differs words files d es output so.0 a at)
