use Rattle.std.proofs.Common.{◌≡◌, ◌≤◌, length, map, take}
use Rattle.patch_bytes.specs.Puts.{write_back, AreWithin}
use Rattle.patch_bytes.specs.PatchView.{put_of}
use Rattle.patch_bytes.proofs.writes.write_back.Given as goal

-- what is left to write back gives what all of it gave
abbrev pub invariant-loop-left : goal.invariant-loop-left
invariant-loop-left l = record {
  few : l.left ≤ length l.list;
  within : AreWithin (length l.buf) (take l.left (map put_of l.list));
  same : write_back l.buf (take l.left (map put_of l.list)) ≡ write_back l.initial.buf (map put_of l.list);
}

abbrev pub decreases-loop-left : goal.decreases-loop-left
decreases-loop-left l = l.left
