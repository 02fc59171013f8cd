-- What `audit` says: a line for each element whose stored range isn't its hull, and how many there are.
use Rattle.std.specs.Prelude.{ℕ, List, ◌++◌, length, codes}
use Rattle.std.specs.List.{flat_map}
use Rattle.range_code.specs.declared.Box3.{Box3}
use Rattle.dgn_audit.specs.declared.finding.Finding.{Finding}
use Rattle.dgn_listing.specs.Lines.{blank, line_feed, field_text, ending_text}
use Rattle.dgn_listing.specs.ItemTexts.{point_text}

-- the low and the high corner of a box
abbrev pub corners_text : ℕ → Box3 → List ℕ
corners_text axes r = point_text axes r.lo ++ (blank ++ point_text axes r.hi)

-- the line of a finding: its number, the corners of its stored range, and those of its hull
abbrev pub finding_line : Finding → List ℕ
finding_line f = field_text f.number ++ (corners_text f.axes f.stored ++ (blank ++ (corners_text f.axes f.hull ++ line_feed)))

abbrev pub finding_lines : List Finding → List ℕ
finding_lines fs = flat_map finding_line fs

-- the text of `audit`
abbrev pub findings_text : List Finding → List ℕ
findings_text fs = finding_lines fs ++ ending_text (codes "audit") (length fs)
