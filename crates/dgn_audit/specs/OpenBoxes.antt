-- The boxes of headers, and what is told, while elements are read from the last one back. Of the headers above the element
-- that is being read, those have a box of which members with hulls have been read, the nearest header's first; of what is
-- told the least number is first. Contracts of private functions alone cite this.
use Rattle.std.specs.Prelude.{ℕ, ◌==◌, nat_lt, Bool, false, if◌then◌else◌, Option, Some, None, List, [], ◌∷◌}
use Rattle.range_code.specs.declared.Box3.{Box3}
use Rattle.range_code.specs.Ranges.{join_of}
use Rattle.dgn_audit.specs.declared.finding.Finding.{Finding}
use Rattle.dgn_audit.specs.declared.open_box.OpenBox.{OpenBox}

-- the box of header n, if it is the first one
abbrev pub box_for : ℕ → List OpenBox → Option Box3
box_for n [] = None
box_for n (o ∷ os) = if o.header == n then Some o.hull else None

-- the boxes without it
abbrev pub without : ℕ → List OpenBox → List OpenBox
without n [] = []
without n (o ∷ os) = if o.header == n then os else o ∷ os

-- the boxes with that of header p made to hold a box too
abbrev pub with_hull : ℕ → Box3 → List OpenBox → List OpenBox
with_hull p hull [] = record { header = p; hull = hull } ∷ []
with_hull p hull (o ∷ os) =
    if o.header == p then record { header = p; hull = join_of hull o.hull } ∷ os
    else record { header = p; hull = hull } ∷ o ∷ os

-- the same, where there is a header, and a hull
abbrev pub with_hulls : Option ℕ → Option Box3 → List OpenBox → List OpenBox
with_hulls None hull os = os
with_hulls (Some p) None os = os
with_hulls (Some p) (Some hull) os = with_hull p hull os

-- whether the first of what is told, if there is one, has a number below `end`
abbrev pub begins_below : ℕ → List Finding → Bool
begins_below end [] = false
begins_below end (f ∷ fs) = nat_lt f.number end

-- what is told, without those in front that have numbers below `end`
abbrev pub past : ℕ → List Finding → List Finding
past end [] = []
past end (f ∷ fs) = if nat_lt f.number end then past end fs else f ∷ fs
