use Rattle.std.proofs.Common.{◌≡◌, ◌++◌, drop, true}
use Rattle.std.specs.List.{AllByRecursion}
use Rattle.dgn_layout.specs.Classes.{class_of}
use Rattle.dgn_layout.specs.Spots.{has_spots}
use Rattle.elem_index.specs.Design.{elements}
use Rattle.edit_ops.specs.Written.{lives_of}
use Rattle.edit_ops.proofs.WiderRanges.{all_wider}
use Rattle.edit_ops.proofs.changes.headers.push_all_wider.Given as goal

-- what is put so far and what is put into those that are left are all
abbrev pub invariant-above : goal.invariant-above
invariant-above l = record {
  spotted : AllByRecursion (λ v. has_spots (class_of v.element.kind) ≡ true) (lives_of (elements l.d) (drop l.m-index l.above));
  all : l.patches ++ all_wider l.d.dim l.r (lives_of (elements l.d) (drop l.m-index l.above)) ≡ l.fn.patches
      ++ all_wider l.d.dim l.r (lives_of (elements l.d) l.above);
}
