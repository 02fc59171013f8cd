-- What an edit does to elements, as a row: what becomes of a live element of its part, or of the copy of one, and of a
-- header above the part; which fields that writes, by the tables of the format; and what is put there. Another edit of
-- elements in their place is another row.
use Rattle.std.specs.Prelude.{ℕ, ◌+◌, List, [], ◌∷◌, map, take, Option, Some, None}
use Rattle.dgn_layout.specs.declared.spot.Spot.{Spot}
use Rattle.dgn_layout.specs.Spots.{range_spots, spots_of}
use Rattle.patch_bytes.specs.Puts.{Put}
use Rattle.range_code.specs.declared.Box3.{Box3}
use Rattle.dgn_drawing.specs.declared.edit.Edit.{Edit}
use Rattle.dgn_drawing.specs.declared.edit.Edit.TheVariants as edit
use Rattle.dgn_drawing.specs.Values.{Displacement, LookChange}
use Rattle.dgn_drawing.specs.Element.{Body, Silent, Shown, Element}
use Rattle.dgn_drawing.specs.Spelling.{second_byte, spell}
use Rattle.dgn_drawing.specs.Changes.{look_changed, look_bytes, recolour, mark, shift, range_in, widen}
use Rattle.dgn_drawing.specs.SpotNumbers.{value_at, sum_at, number_bytes, wider}
use Rattle.edit_ops.specs.Fields.{Field, spot_fields}
use Rattle.edit_ops.specs.Trees.{Reach, Living}

-- the row: which elements of the part it reaches; what becomes of one of these, and of a header above the part by the
-- element whose part it is, if there is one; the fields of the one and the other where it begins at byte p; and what is put
-- there
pub record Rule : Type 0 where
  pub reach : Reach
  pub made : Element → Element
  pub above : Option Element → Element → Element
  pub fields : ℕ → Element → List Field
  pub over : ℕ → Element → List Field
  pub puts : ℕ → Element → List Put
  pub over_puts : Option Element → ℕ → Element → List Put

-- a header whose range holds that of this body too; a silent one has none
abbrev pub holding : ℕ → Body → Element → Element
holding dim (Silent rest) header = header
holding dim (Shown display parts rest) header = widen dim (range_in display) header

-- the number at a range spot, made wider by a range, of an element with the bytes b that begins at byte p
abbrev pub wider_put : Box3 → ℕ → List ℕ → Spot → Put
wider_put r p b s = record { at = p + s.at; bytes = number_bytes s (wider r s (value_at b s)) }

-- all range numbers of it
abbrev pub wider_puts : ℕ → Box3 → ℕ → List ℕ → List Put
wider_puts dim r p b = map (wider_put r p b) (range_spots dim)

-- the range numbers of a header, made to hold the range of this body too
abbrev pub holding_puts : ℕ → Body → ℕ → List ℕ → List Put
holding_puts dim (Silent rest) p b = []
holding_puts dim (Shown display parts rest) p b = wider_puts dim (range_in display) p b

-- the sum at a spot of an element that begins at byte p
abbrev pub sum_put : Displacement → ℕ → List ℕ → Spot → Put
sum_put by p b s = record { at = p + s.at; bytes = number_bytes s (sum_at by b s) }

-- the other look of an element that begins at byte p
abbrev pub look_put : LookChange → ℕ → Body → List Put
look_put change p (Silent rest) = []
look_put change p (Shown display parts rest) = record { at = p + 34; bytes = look_bytes (look_changed change display) } ∷ []

-- what becomes of a header above a moved element: its range holds that of the moved element too
abbrev pub header_over : ℕ → Displacement → Option Element → Element → Element
header_over dim by None header = header
header_over dim by (Some e) header = holding dim (shift dim by e).body header

abbrev pub header_puts : ℕ → Displacement → Option Element → ℕ → Element → List Put
header_puts dim by None p header = []
header_puts dim by (Some e) p header = holding_puts dim (shift dim by e).body p (spell header)

-- a displacement puts the sum at each spot, and leaves what is above; so a copy is made
abbrev pub displacing : ℕ → Displacement → Rule
displacing dim by = record {
  reach = Living;
  made = shift dim by;
  above = λ head header. header;
  fields = λ p e. spot_fields p (spots_of dim e.kind (spell e));
  over = λ p header. [];
  puts = λ p e. map (sum_put by p (spell e)) (spots_of dim e.kind (spell e));
  over_puts = λ head p header. [];
}

-- a move widens the ranges of the headers above too
abbrev pub moving : ℕ → Displacement → Rule
moving dim by = record (displacing dim by) {
  above = header_over dim by;
  over = λ p header. spot_fields p (range_spots dim);
  over_puts = header_puts dim by;
}

-- another look is two bytes
abbrev pub recolouring : LookChange → Rule
recolouring change = record {
  reach = Living;
  made = recolour change;
  above = λ head header. header;
  fields = λ p e. record { at = p + 34; len = 2 } ∷ [];
  over = λ p header. [];
  puts = λ p e. look_put change p e.body;
  over_puts = λ head p header. [];
}

-- a deletion sets the mark in byte 1
abbrev pub deleting : Rule
deleting = record {
  reach = Living;
  made = mark;
  above = λ head header. header;
  fields = λ p e. record { at = p + 1; len = 1 } ∷ [];
  over = λ p header. [];
  puts = λ p e. record { at = p + 1; bytes = second_byte (mark e) ∷ [] } ∷ [];
  over_puts = λ head p header. [];
}

-- what appends changes nothing that is there
abbrev pub unchanged : Rule
unchanged = record {
  reach = Living;
  made = λ e. e;
  above = λ head header. header;
  fields = λ p e. [];
  over = λ p header. [];
  puts = λ p e. [];
  over_puts = λ head p header. [];
}

-- the row of an edit
abbrev pub rule_of : ℕ → Edit → Rule
rule_of dim (edit.Move n by) = moving dim by
rule_of dim (edit.Copy n by) = displacing dim by
rule_of dim (edit.Sym n change) = recolouring change
rule_of dim (edit.Delete n) = deleting
rule_of dim (edit.Append new) = unchanged
