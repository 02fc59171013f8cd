use Rattle.std.proofs.Common.{◌≡◌, ◌+◌, ◌≤◌, drop, length, min, true}
use Rattle.std.specs.List.{AllByRecursion}
use Rattle.dgn_layout.specs.Classes.{class_of}
use Rattle.dgn_layout.specs.Spots.{has_spots}
use Rattle.elem_index.specs.Design.{elements}
use Rattle.edit_ops.specs.Written.{lives_of}
use Rattle.edit_ops.specs.Putting.{all_spots}
use Rattle.edit_ops.proofs.changes.live.numbers_in.Given as goal

-- the fields of those that are left can be counted, and with these all are counted, as far as the number goes
abbrev pub invariant-live : goal.invariant-live
invariant-live l = record {
  spotted : AllByRecursion (λ v. has_spots (class_of v.element.kind) ≡ true) (lives_of (elements l.d) (drop l.m-index l.live));
  most : l.count ≤ 18446744073709551615;
  all : min (l.count + length (all_spots l.d.dim (lives_of (elements l.d) (drop l.m-index l.live)))) 18446744073709551615
      ≡ min (length (all_spots l.d.dim (lives_of (elements l.d) l.live))) 18446744073709551615;
}
