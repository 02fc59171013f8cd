-- The fields that edits write have one to four bytes.
use Rattle.std.proofs.Common.{ℕ, ◌≤◌, Option, Some, None, List, [], ◌∷◌, ◌++◌, arith}
use Rattle.std.specs.List.{flat_map, AllByRecursion}
use Rattle.std.proofs.lemmas.List.Concat.{flat_map-cons}
use Rattle.dgn_layout.specs.declared.spot.Spot.{Spot}
use Rattle.dgn_layout.specs.Spots.{range_spots, spots_of}
use Rattle.dgn_drawing.specs.declared.edit.Edit.{Edit}
use Rattle.dgn_drawing.specs.declared.edit.Edit.TheVariants as edit
use Rattle.dgn_drawing.specs.Element.{Element}
use Rattle.dgn_drawing.specs.Spelling.{spell}
use Rattle.edit_ops.specs.Trees.{Live, reached, above_tree}
use Rattle.edit_ops.specs.Fields.{Field, spot_fields}
use Rattle.edit_ops.specs.EditedFields.{part_fields, edited_fields}
use Rattle.edit_ops.specs.Rules.{Rule, rule_of}
use Rattle.edit_ops.specs.Fenced.{edits_at}
use Rattle.dgn_answers.specs.Remaining.{EditKind, Alone, Fenced, Fitted, Imported, fields_made}
use Rattle.dgn_drawing.specs.Rows.{row_of}
use Rattle.dgn_drawing.specs.Numbering.{root_of}
use Rattle.elem_index.specs.Offsets.{offset_of}
use Rattle.dgn_audit.specs.declared.finding.Finding.{Finding}
use Rattle.dgn_audit.specs.Findings.{fitted_in}
use Rattle.dgn_audit.specs.Fitting.{root_fields}

pub record HasFew (f : Field) : Type 0 where
  pub least : 1 ≤ f.len
  pub most : f.len ≤ 4

-- lists of such fields, joined
both_few : (fs gs : List Field) → AllByRecursion HasFew fs → AllByRecursion HasFew gs → AllByRecursion HasFew (fs ++ gs)
both_few [] gs first second = second
both_few (f ∷ fs) gs first second = (first.0, both_few fs gs first.1 second)

all_few : {X : Type 0} (of : X → List Field) (xs : List X) → ((x : X) → AllByRecursion HasFew (of x)) → AllByRecursion HasFew (flat_map of xs)
all_few of [] each = tt
all_few of (x ∷ xs) each = rw flat_map-cons (both_few (of x) (flat_map of xs) (each x) (all_few of xs each))

spots_few : (p : ℕ) (ss : List Spot) → AllByRecursion HasFew (spot_fields p ss)
spots_few p [] = tt
spots_few p (s ∷ ss) = (record { least = omega arith; most = omega arith }, spots_few p ss)

at_few : (dim : ℕ) (e : Edit) (p : ℕ) (x : Element) → AllByRecursion HasFew ((rule_of dim e).fields p x)
at_few dim (edit.Move n by) p x = spots_few p (spots_of dim x.kind (spell x))
at_few dim (edit.Copy n by) p x = spots_few p (spots_of dim x.kind (spell x))
at_few dim (edit.Sym n change) p x = (record { least = omega arith; most = omega arith }, tt)
at_few dim (edit.Delete n) p x = (record { least = omega arith; most = omega arith }, tt)
at_few dim (edit.Append new) p x = tt

above_few : (dim : ℕ) (e : Edit) (p : ℕ) (x : Element) → AllByRecursion HasFew ((rule_of dim e).over p x)
above_few dim (edit.Move n by) p x = spots_few p (range_spots dim)
above_few dim (edit.Copy n by) p x = tt
above_few dim (edit.Sym n change) p x = tt
above_few dim (edit.Delete n) p x = tt
above_few dim (edit.Append new) p x = tt

part_few : (dim : ℕ) (es : List Element) (e : Edit) (n : ℕ) → AllByRecursion HasFew (part_fields (rule_of dim e) es n)
part_few dim es e n =
    let r : Rule = rule_of dim e in
    both_few _ _ (all_few (λ (v : Live). r.over v.place v.element) (above_tree es n) (λ v. above_few dim e v.place v.element))
    (all_few (λ (v : Live). r.fields v.place v.element) (reached r.reach es n) (λ v. at_few dim e v.place v.element))

edited_few : (dim : ℕ) (es : List Element) (e : Edit) → AllByRecursion HasFew (edited_fields dim es e)
edited_few dim es (edit.Move n by) = part_few dim es (edit.Move n by) n
edited_few dim es (edit.Copy n by) = tt
edited_few dim es (edit.Sym n change) = part_few dim es (edit.Sym n change) n
edited_few dim es (edit.Delete n) = part_few dim es (edit.Delete n) n
edited_few dim es (edit.Append new) = tt

root_few : (dim : ℕ) (es : List Element) (root : Option ℕ) → AllByRecursion HasFew (root_fields dim es root)
root_few dim es None = tt
root_few dim es (Some root) =
    all_few (λ (f : Finding). spot_fields (offset_of es f.number) (range_spots dim)) (fitted_in dim es root)
    (λ f. spots_few (offset_of es f.number) (range_spots dim))

pub made_few : (dim : ℕ) (on : List Element) (kind : EditKind) → AllByRecursion HasFew (fields_made dim on kind)
made_few dim on (Alone e) = edited_few dim on e
made_few dim on (Fenced e ns) = all_few (edited_fields dim on) (edits_at e ns) (λ one. edited_few dim on one)
made_few dim on (Imported new) = tt
made_few dim on (Fitted n) = root_few dim on (root_of row_of on n)
