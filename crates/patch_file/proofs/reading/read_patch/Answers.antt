use Rattle.std.proofs.Common.{arith}
use Rattle.patch_file.specs.PatchView.{all_packed}
use Rattle.patch_file.proofs.ReadAnswers.{found, only, no_bad, none_bad, bad_is, bad_at}
use Rattle.patch_file.proofs.BytesLeft.{left_within}
use Rattle.patch_file.proofs.reading.read_patch.Goals as goal

pub overflow_sub-result : goal.overflow_sub-result
overflow_sub-result c = left_within c.args.bytes.now c.in-Err-Bad.left (rw c.in-Err-Bad.field-0-is at c.in-Err-Bad.ensures)

pub returns-in-Ok-clause-found : goal.returns-in-Ok-clause-found
returns-in-Ok-clause-found c = found c.args.bytes.now (all_packed c.in-Ok.entries.items) (λ i. omega (arith, c.type_inv.bytes i)) c.in-Ok.ensures

pub returns-in-Ok-clause-only : goal.returns-in-Ok-clause-only
returns-in-Ok-clause-only c = λ es s. only c.args.bytes.now es (all_packed c.in-Ok.entries.items) s c.in-Ok.ensures

pub returns-in-Err-Bad-clause-only : goal.returns-in-Err-Bad-clause-only
returns-in-Err-Bad-clause-only c = λ es s. no_bad c.args.bytes.now es c.in-Err-Bad.left s (rw c.in-Err-Bad.field-0-is at c.in-Err-Bad.ensures)

pub returns-in-Ok-clause-bad : goal.returns-in-Ok-clause-bad
returns-in-Ok-clause-bad c = λ offset bad. none_bad c.args.bytes.now (all_packed c.in-Ok.entries.items) offset c.in-Ok.ensures bad

pub returns-in-Err-Bad-clause-bad : goal.returns-in-Err-Bad-clause-bad
returns-in-Err-Bad-clause-bad c = λ offset bad.
    bad_is c.args.bytes.now c.in-Err-Bad.left offset (rw c.in-Err-Bad.field-0-is at c.in-Err-Bad.ensures) bad

pub returns-in-Err-Bad-clause-named : goal.returns-in-Err-Bad-clause-named
returns-in-Err-Bad-clause-named c =
    bad_at c.args.bytes.now c.in-Err-Bad.left (λ i. omega (arith, c.type_inv.bytes i)) (rw c.in-Err-Bad.field-0-is at c.in-Err-Bad.ensures)
