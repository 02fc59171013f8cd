use Rattle.std.proofs.Common.{◌≡◌, length, Err, subst}
use Rattle.std.specs.Prelude.{codes}
use Rattle.std.proofs.lemmas.Result.{err_from_is_err_and}
use Rattle.dgn_desk.specs.Seen.{seen}
use Rattle.patch_file.specs.PatchView.{all_packed}
use Rattle.dgn_tool.specs.Applied.{Differs, Overruns, put_from, entries_outcome, Puts}
use Rattle.dgn_tool.specs.Ended.{ended}
use Rattle.dgn_listing.specs.NumberedLines.{numbered}
use Rattle.dgn_tool.specs.declared.status.Status.TheVariants as statuses
use Rattle.dgn_tool.proofs.RunParts.{wants, named_so}
use Rattle.dgn_tool.proofs.PatchOutcomes.{entries_made}
use Rattle.dgn_tool.proofs.apply.apply_entries.Goals as goal

pub returns-in-Err-Refused : goal.returns-in-Err-Refused
returns-in-Err-Refused g c =
    let b = c.args.body.items in
    let tail = c.args.tail.now in
    let es = all_packed c.args.entries.now in
    let made : put_from (length tail) 1 b es ≡ Differs c.in-Err-Refused.number =
    subst (λ end. Puts (Err end) (put_from (length tail) 1 b es) c.put_entries.new.body.items) c.in-Err-Refused.field-0-is c.in-Err-Refused.ensures.put in
    named_so (entries_outcome b tail es c.args.output.now) (ended statuses.PatchRefused (numbered (codes "refused entry ") c.in-Err-Refused.number))
    c.end_numbered.result _ _
    (entries_made b tail c.args.output.now es (Differs c.in-Err-Refused.number) made)
    c.end_numbered.ensures

pub returns-in-Err-TooLong : goal.returns-in-Err-TooLong
returns-in-Err-TooLong g c =
    let b = c.args.body.items in
    let tail = c.args.tail.now in
    let es = all_packed c.args.entries.now in
    let made : put_from (length tail) 1 b es ≡ Overruns =
    subst (λ end. Puts (Err end) (put_from (length tail) 1 b es) c.put_entries.new.body.items) c.in-Err-TooLong.field-0-is c.in-Err-TooLong.ensures.put in
    named_so (entries_outcome b tail es c.args.output.now) (ended statuses.TooLong (codes "too long design\n")) c.end_with.result _ _
    (entries_made b tail c.args.output.now es Overruns made)
    c.end_with.ensures

pub returns : goal.returns
returns g c = wants (entries_outcome c.args.body.items c.args.tail.now (all_packed c.args.entries.now) c.args.output.now) (seen g.D.Desk c.args.desk.now)

pub returns-in_err-text-in-Ok : goal.returns-in_err-text-in-Ok
returns-in_err-text-in-Ok g c =
    let p = err_from_is_err_and c.from_residual.result c.from_residual.ensures.1 in
    rw (p.1, p.2) (wants (entries_outcome c.args.body.items c.args.tail.now (all_packed c.args.entries.now) c.args.output.now)
    (seen g.D.Desk c.args.desk.now))
