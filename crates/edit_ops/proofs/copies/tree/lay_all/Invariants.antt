use Rattle.std.proofs.Common.{◌≡◌, ℕ, List, ◌++◌, length, map, drop}
use Rattle.std.specs.List.{AllByRecursion}
use Rattle.patch_bytes.specs.Puts.{write}
use Rattle.patch_bytes.specs.PatchView.{put_of}
use Rattle.edit_ops.proofs.LoweredPuts.{LiesFrom}
use Rattle.edit_ops.proofs.copies.tree.lay_all.Given as goal

-- what is left lies in the bytes, and laid behind others gives what all of it gives
abbrev pub invariant-patches : goal.invariant-patches
invariant-patches l = record {
  lie : AllByRecursion (LiesFrom l.start (length l.bytes)) (map put_of (drop l.patch-index l.list));
  same : (a : List ℕ) → length a ≡ l.start → write (a ++ l.bytes) (map put_of (drop l.patch-index l.list)) ≡ write (a ++ l.fn.bytes) l.patches;
}
