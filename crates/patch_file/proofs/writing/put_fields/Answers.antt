use Rattle.patch_file.specs.FieldView.{exchange_of}
use Rattle.patch_file.specs.Spelling.{field_spelling}
use Rattle.patch_bytes.proofs.Fronts.{as_text}
use Rattle.patch_bytes.proofs.Loops.{among, all_written}
use Rattle.patch_file.proofs.WrittenPieces.{viewed}
use Rattle.patch_file.proofs.writing.put_fields.Goals as goal

pub returns-in_err-put_field : goal.returns-in_err-put_field
returns-in_err-put_field c =
    as_text (among _ c.loop-field.invariant c.loop-field-test.true c.field-item.is c.in_err-put_field.ensures c.from_residual.ensures.0)
    (viewed field_spelling exchange_of c.args.fields.now)

pub returns : goal.returns
returns c = as_text (all_written c.loop-field.invariant c.loop-field-test.false) (viewed field_spelling exchange_of c.args.fields.now)
