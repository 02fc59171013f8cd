use Rattle.std.proofs.Common.{◌≡◌, ◌≤◌, ◌+◌, length, drop}
use Rattle.patch_file.specs.PatchView.{all_packed}
use Rattle.dgn_drawing.specs.declared.limits.TheConstants.{MOST_DESIGN}
use Rattle.dgn_tool.specs.Applied.{put_from}
use Rattle.dgn_tool.proofs.entries.put_entries.Given as goal

-- what is left to put makes what all of it made
abbrev pub invariant-entries : goal.invariant-entries
invariant-entries l = record {
  few : length l.body.items + l.tail ≤ MOST_DESIGN;
  counted : l.number ≡ l.entry-index;
  left : put_from l.tail (l.number + 1) l.body.items (all_packed (drop l.entry-index l.entries)) ≡ put_from l.tail 1 l.fn.body.items (all_packed l.entries);
}
