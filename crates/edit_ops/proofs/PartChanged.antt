-- What is left where a row changes the part of one element in its place, and the headers above it.
use Rattle.std.proofs.Common.{◌≡◌, ℕ, ◌<◌, List, [], ◌++◌, length, refl, sym, ap, ◌∙◌}
use Rattle.std.specs.Prelude.{Some, slice_get}
use Rattle.std.specs.List.{AllByRecursion}
use Rattle.std.proofs.lemmas.List.{append-nil}
use Rattle.dgn_drawing.specs.Element.{Element}
use Rattle.dgn_drawing.specs.WellFormed.{IsDimension, IsWellFormed}
use Rattle.dgn_drawing.specs.Rows.{row_of}
use Rattle.dgn_drawing.specs.Nesting.{Forest, flat, forest}
use Rattle.dgn_drawing.specs.Opening.{BeginsWithTcb}
use Rattle.edit_ops.specs.Trees.{reach_map, reached, above_tree}
use Rattle.edit_ops.specs.Applying.{altered}
use Rattle.edit_ops.specs.EditedFields.{part_fields}
use Rattle.edit_ops.specs.Rules.{Rule}
use Rattle.edit_ops.specs.Written.{part_puts}
use Rattle.edit_ops.proofs.RowsKept.{rows_kept, nested_as, each_kept}
use Rattle.edit_ops.proofs.LivePuts.{IsPut}
use Rattle.edit_ops.proofs.HeaderPuts.{IsAbovePut}
use Rattle.edit_ops.proofs.KeptRules.{Keeps}
use Rattle.edit_ops.proofs.EditedBytes.{IsWritten, written, all_so}
use Rattle.edit_ops.proofs.FirstElement.{begins_same}
use Rattle.edit_ops.proofs.WhatIsLeft.{IsLeft}

-- element n is there and isn't the first, and nothing stands against it nor against any element that a row reaches in its part
pub record IsTarget (es : List Element) (r : Rule) (Ready : Element → Type 0) (n : ℕ) : Type 0 where
  pub known : n < length es
  pub later : 0 < n
  pub head : Element
  pub there : slice_get es n ≡ Some head
  pub head_able : Ready head
  pub able : AllByRecursion (λ v. Ready v.element) (reached r.reach es n)

module _ (dim : ℕ) (axes : IsDimension dim) (es : List Element) (each : AllByRecursion (IsWellFormed dim) es) (first : BeginsWithTcb es)
    (r : Rule) (Ready : Element → Type 0) (keeps : Keeps dim r Ready) (n : ℕ) (able : IsTarget es r Ready n) where
  -- what the row puts is right
  pub part_written : IsWritten dim es r n
  part_written = written dim es r Ready keeps each n able.known able.head able.there able.head_able able.able

  -- the headers above the part, and its elements that are reached, keep what they have to
  abbrev above : Element → Element
  above = r.above (slice_get es n)

  heads : (P : Element → Type 0) → ((h : Element) → IsAbovePut dim r (slice_get es n) h → P h) → AllByRecursion (λ v. P v.element) (above_tree es n)
  heads P give = all_so (λ v. IsAbovePut dim r (slice_get es n) v.element) (λ v. P v.element) (λ v is. give v.element is) (above_tree es n)
      part_written.each_above

  members : (P : Element → Type 0) → ((e : Element) → IsPut dim r e → P e) → AllByRecursion (λ v. P v.element) (reached r.reach es n)
  members P give = all_so (λ v. IsPut dim r v.element) (λ v. P v.element) (λ v is. give v.element is) (reached r.reach es n) part_written.each

  -- what is left
  pub part_left : IsLeft dim es (part_puts r es n) (part_fields r es n) [] (altered r es n)
  part_left =
      let new : List Element = flat (altered r es n) in
      let rows_above = heads (λ h. row_of (above h) ≡ row_of h) (λ h is. is.row) in
      let rows_made = members (λ e. row_of (r.made e) ≡ row_of e) (λ e is. is.row) in
      record {
        base = new;
        listed = sym (append-nil new);
        turned = part_written.turned;
        laid = part_written.fields;
        rows = rows_kept es n above r.made r.reach rows_above rows_made;
        nested = ap (forest row_of) (append-nil new) ∙ nested_as es n above r.made r.reach rows_above rows_made;
        good = each_kept es n above r.made r.reach (IsWellFormed dim) each (heads (λ h. IsWellFormed dim (above h)) (λ h is. is.good))
            (members (λ e. IsWellFormed dim (r.made e)) (λ e is. is.good));
        good_more = tt;
        begins = λ t. begins_same dim es n above (reach_map r.reach r.made) t axes each first able.later;
        free = tt;
      }
