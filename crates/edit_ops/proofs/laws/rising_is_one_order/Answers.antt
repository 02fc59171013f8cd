use Rattle.edit_ops.proofs.RisesAgree.{fields_rise_as_patches, spots_rise_as_fields}
use Rattle.edit_ops.proofs.laws.rising_is_one_order.Goals as goal

pub returns-clause-fields : goal.returns-clause-fields
returns-clause-fields c = fields_rise_as_patches

pub returns-clause-spots : goal.returns-clause-spots
returns-clause-spots c = spots_rise_as_fields
