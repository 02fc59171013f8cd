use Rattle.patch_file.specs.FieldView.{exchange_of}
use Rattle.patch_file.specs.Standing.{HoldsOld}
use Rattle.patch_file.proofs.EachItem.{maps_at}
use Rattle.patch_file.proofs.applying.all_hold_old.Goals as goal

-- one that doesn't hold its old bytes is one of them
pub returns-then-not-holds_old : goal.returns-then-not-holds_old
returns-then-not-holds_old c = (
  λ t. absurd cc,
  λ all. c.if-not-holds_old.ensures.1
      (maps_at exchange_of (HoldsOld c.args.body.now)
      c.args.fields.now c.loop-field.field-index c.field-item.result c.loop-field-test.true c.field-item.is all),
)
