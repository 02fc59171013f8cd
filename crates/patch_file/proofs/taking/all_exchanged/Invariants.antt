use Rattle.std.proofs.Common.{◌≡◌, take, map}
use Rattle.std.specs.List.{AllByRecursion}
use Rattle.patch_bytes.specs.PatchView.{put_of}
use Rattle.patch_file.specs.Exchanges.{IsSized}
use Rattle.patch_file.specs.Standing.{exchanged}
use Rattle.patch_file.proofs.taking.all_exchanged.Given as goal

abbrev pub invariant-loop-patch : goal.invariant-loop-patch
invariant-loop-patch l = record {
  are : l.fields ≡ map (exchanged l.body) (map put_of (take l.patch-index l.patches));
  sized : AllByRecursion IsSized l.fields;
}
