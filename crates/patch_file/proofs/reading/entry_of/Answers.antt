use Rattle.patch_file.proofs.FieldRules.{fields_rules}
use Rattle.patch_file.proofs.reading.entry_of.Goals as goal

-- what is read as fields keeps the rules
pub invariant_of-entry : goal.invariant_of-entry
invariant_of-entry c = record {
  rules =
      fields_rules 0 c.in_ok-len.len c.in_ok-len.fields c.in_ok-len.rest.now (c.in_ok-fields.fields, c.in_ok-fields.rest.now) c.in_ok-fields.ensures;
}
