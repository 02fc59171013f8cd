use Rattle.std.proofs.Common.{arith}
use Rattle.std.proofs.lemmas.Result.{err_from_is_err_and}
use Rattle.patch_file.specs.FieldView.{exchange_of}
use Rattle.patch_file.specs.Reading.{fields_at}
use Rattle.patch_file.proofs.FieldRules.{field_rules}
use Rattle.patch_file.proofs.ReadLoops.{fields_go_on, fields_stop, fields_done}
use Rattle.patch_file.proofs.reading.fields_of.Goals as goal

pub returns-in_err-field : goal.returns-in_err-field
returns-in_err-field c =
    let p = err_from_is_err_and c.from_residual-in_err-field.result c.from_residual-in_err-field.ensures.1 in
    rw (p.1, p.2) (fields_stop c.in_err-field.field-0.0 c.loop.fields c.args.len c.args.count c.loop.counter c.loop.from c.loop.rest.now
    (fields_at 0 c.args.len c.args.count c.args.bytes.now) c.loop-test.true c.in_err-field.ensures c.loop.invariant)

pub end_of-from-requires : goal.end_of-from-requires
end_of-from-requires c =
    let rules = field_rules c.loop.from c.args.len c.loop.rest.now (exchange_of c.in_ok-field.field, c.in_ok-field.after.now) c.in_ok-field.ensures in
    let within = rules.within in
    omega arith

pub loop-preserved : goal.loop-preserved
loop-preserved c =
    rw (c.in_ok-push.ensures.ok, c.end_of-from.ensures)
    (fields_go_on c.loop.fields c.args.len c.args.count c.loop.counter c.loop.from c.loop.rest.now (exchange_of c.in_ok-field.field)
    c.in_ok-field.after.now (fields_at 0 c.args.len c.args.count c.args.bytes.now) c.loop-test.true c.in_ok-field.ensures c.loop.invariant)

pub returns : goal.returns
returns c = fields_done c.loop.fields c.args.len c.args.count c.loop.counter c.loop.from c.loop.rest.now
    (fields_at 0 c.args.len c.args.count c.args.bytes.now) c.loop-test.false c.loop.invariant
