-- Elements read one by one, from the last one back: when a header is read, the hull of its members' trees is its box.
use Rattle.std.specs.Prelude.{ℕ, zero, suc, ◌+◌, if◌then◌else◌, Option, Some, List, [], ◌++◌, reverse, slice_get}
use Rattle.range_code.specs.declared.Box3.{Box3}
use Rattle.dgn_drawing.specs.Element.{Element}
use Rattle.dgn_drawing.specs.Rows.{row_of}
use Rattle.dgn_drawing.specs.Numbering.{Mark, mark_of}
use Rattle.dgn_audit.specs.declared.reported.Reported.{Reported}
use Rattle.dgn_audit.specs.declared.finding.Finding.{Finding}
use Rattle.dgn_audit.specs.declared.open_box.OpenBox.{OpenBox}
use Rattle.dgn_audit.specs.Hulls.{tree_hull}
use Rattle.dgn_audit.specs.Findings.{finding_as}
use Rattle.dgn_audit.specs.OpenBoxes.{box_for, without, with_hulls, past}

-- what is had while elements are read: the boxes of headers, the nearest header's first, and what is told, the least
-- number first
pub record Pass : Type 0 where
  pub open_boxes : List OpenBox
  pub noted : List Finding

-- the same, of the lists of the code, in which the last is first
abbrev pub pass_of : List OpenBox → List Finding → Pass
pass_of open_boxes noted = record { open_boxes = reverse open_boxes; noted = reverse noted }

-- element n, of that mark and with that box of its members, before what was read behind it: what is told of elements
-- below one that is marked deleted is taken away
abbrev pub findings_before : Reported → ℕ → ℕ → Mark → Element → Option Box3 → List Finding → List Finding
findings_before keep dim n m e members noted =
    if e.deleted then past m.end noted else finding_as keep dim m.knot n e (tree_hull dim m.knot e members) ++ noted

abbrev pub read_one : Reported → ℕ → ℕ → Mark → Element → Pass → Pass
read_one keep dim n m e pass = record {
  open_boxes = with_hulls m.parent (tree_hull dim m.knot e (box_for n pass.open_boxes)) (without n pass.open_boxes);
  noted = findings_before keep dim n m e (box_for n pass.open_boxes) pass.noted;
}

-- the same of the element that has that number, if there is one
abbrev pub read_marked : Reported → ℕ → ℕ → Option Mark → Option Element → Pass → Pass
read_marked keep dim n (Some m) (Some e) pass = read_one keep dim n m e pass
read_marked keep dim n marked element pass = pass

-- so many elements, of which the first has number n
abbrev pub read_back : Reported → ℕ → List Element → ℕ → ℕ → Pass
read_back keep dim es n zero = record { open_boxes = []; noted = [] }
read_back keep dim es n (suc count) = read_marked keep dim n (mark_of row_of es n) (slice_get es n) (read_back keep dim es (n + 1) count)
