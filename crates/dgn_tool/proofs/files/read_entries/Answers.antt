use Rattle.std.proofs.Common.{◌≡◌, List, ℕ, length, Result, Ok, Err, ap, sym, subst, ◌∙◌}
use Rattle.std.specs.Prelude.{codes}
use Rattle.std.proofs.lemmas.Result.{err_from_is_err_and}
use Rattle.dgn_desk.specs.Content.{Files}
use Rattle.patch_file.specs.Answers.{NamesBad}
use Rattle.patch_file.specs.BadPieces.{IsBadAt}
use Rattle.patch_file.specs.PatchView.{all_packed}
use Rattle.patch_file.specs.Reading.{patch_of}
use Rattle.patch_file.specs.Spelling.{Packed}
use Rattle.patch_file.specs.declared.limits.TheConstants.{MOST_PATCH}
use Rattle.patch_file.proofs.ReadAnswers.{read_of}
use Rattle.dgn_listing.specs.NumberedLines.{numbered}
use Rattle.dgn_tool.specs.Ended.{Outcome, ended}
use Rattle.dgn_tool.specs.Inputs.{entries_read, entries_in}
use Rattle.dgn_tool.specs.Readings.{Reading, at_once, file_in}
use Rattle.dgn_tool.specs.declared.status.Status.TheVariants as statuses
use Rattle.dgn_tool.proofs.PatchOutcomes.{bad_ends}
use Rattle.dgn_tool.proofs.ReadingsInTurn.{ends_first, then_comes, gives_so, comes_so, wants_more}
use Rattle.dgn_tool.proofs.files.read_entries.Goals as goal

-- the bytes of PATCH
abbrev patch_in : List ℕ → Files → Reading (List ℕ)
patch_in patch files = file_in files patch MOST_PATCH (codes "too long patch\n")

-- and what is read behind them
abbrev behind : Files → List ℕ → Reading (List Packed)
behind files bytes = at_once (entries_read (length bytes) (patch_of bytes))

pub returns-in_err-bytes-clause-read : goal.returns-in_err-bytes-clause-read
returns-in_err-bytes-clause-read g c =
    let p = err_from_is_err_and c.from_residual.result c.from_residual.ensures.1 in
    rw (p.1, p.2) (ends_first (patch_in c.args.patch.now) behind c.in_err-bytes.field-0.0 _ _ c.in_err-bytes.ensures.read)

pub returns-in-Ok-clause-read : goal.returns-in-Ok-clause-read
returns-in-Ok-clause-read g c =
    let bytes = c.in_ok-bytes.bytes.items in
    let es = all_packed c.in-Ok.entries.items in
    let found : patch_of bytes ≡ Ok es = ap patch_of (sym c.deref.ensures.value) ∙ read_of c.deref.result.now es c.in-Ok.ensures.found in
    then_comes (patch_in c.args.patch.now) behind bytes (Ok es) _ _ _ c.in_ok-bytes.ensures.read
    (gives_so (λ files. behind files bytes) es _ (λ _. ap (λ (r : Result (List Packed) ℕ). at_once (entries_read (length bytes) r)) found))

pub returns-in-Err-At-clause-read : goal.returns-in-Err-At-clause-read
returns-in-Err-At-clause-read g c =
    let bytes = c.in_ok-bytes.bytes.items in
    let offset = c.in-Err-At.offset in
    let told : IsBadAt c.deref.result.now offset =
    subst (λ fault. NamesBad c.deref.result.now (Err fault)) c.in-Err-At.field-0-is c.in-Err-At.ensures.named in
    let bad : IsBadAt bytes offset = subst (λ (x : List ℕ). IsBadAt x offset) c.deref.ensures.value told in
    then_comes (patch_in c.args.patch.now) behind bytes (Err c.of.result) _ _ _ c.in_ok-bytes.ensures.read
    (comes_so (λ files. behind files bytes) (ended statuses.BadPatch (numbered (codes "bad patch at ") offset)) c.end_numbered.result c.of.result _ _
    (λ _. ap (λ (r : Result (List Packed) Outcome). at_once r) (bad_ends bytes offset bad)) c.of.ensures c.end_numbered.ensures)

pub returns-clause-read : goal.returns-clause-read
returns-clause-read g c = wants_more (λ files. entries_in files c.args.patch.now) _ _ c.in_ok-bytes.ensures.read.reads
