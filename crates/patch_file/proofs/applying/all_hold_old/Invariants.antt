use Rattle.std.proofs.Common.{take, map}
use Rattle.std.specs.List.{AllByRecursion}
use Rattle.patch_file.specs.FieldView.{exchange_of}
use Rattle.patch_file.specs.Standing.{HoldsOld}
use Rattle.patch_file.proofs.applying.all_hold_old.Given as goal

abbrev pub invariant-loop-field : goal.invariant-loop-field
invariant-loop-field l = AllByRecursion (HoldsOld l.body) (map exchange_of (take l.field-index l.fields))
