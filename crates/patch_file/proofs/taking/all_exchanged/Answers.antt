use Rattle.std.proofs.Common.{length}
use Rattle.patch_bytes.specs.Puts.{IsWithin}
use Rattle.patch_bytes.specs.PatchView.{put_of}
use Rattle.patch_file.proofs.EachItem.{maps_at}
use Rattle.patch_file.proofs.taking.all_exchanged.Goals as goal

pub exchanged-requires : goal.exchanged-requires
exchanged-requires c =
    maps_at put_of (IsWithin (length c.args.body.now))
    c.args.patches.now c.loop-patch.patch-index c.patch-item.result c.loop-patch-test.true c.patch-item.is c.requires
