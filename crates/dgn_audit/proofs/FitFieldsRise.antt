-- The range spots of each fitted element lie in it, and those of all rise in their tree.
use Rattle.std.proofs.Common.{◌≡◌, ℕ, ◌+◌, ◌<◌, ◌≤◌, List, length, Some, false, true, refl, sym, ap, subst, arith}
use Rattle.std.specs.List.{AllByRecursion}
use Rattle.std.specs.Prelude.{All}
use Rattle.std.proofs.lemmas.List.Elements.{All-from_recursion}
use Rattle.dgn_layout.specs.declared.types.Class.{Class}
use Rattle.dgn_layout.specs.Classes.{class_of, is_silent}
use Rattle.dgn_layout.specs.Spots.{range_spots, has_spots}
use Rattle.dgn_drawing.specs.Element.{Element}
use Rattle.dgn_drawing.specs.Spelling.{spelling, size_of}
use Rattle.dgn_drawing.specs.WellFormed.{IsDimension, IsWellFormed}
use Rattle.dgn_drawing.specs.Rows.{row_of}
use Rattle.dgn_drawing.specs.Nesting.{flat, forest}
use Rattle.dgn_drawing.specs.Numbering.{root_of, span_of}
use Rattle.dgn_drawing.proofs.Places.{in_both}
use Rattle.elem_index.specs.Offsets.{offset_of}
use Rattle.elem_index.proofs.Places.{each_at}
use Rattle.edit_ops.specs.Trees.{tree_at}
use Rattle.edit_ops.specs.Fields.{Field, Rise, spot_fields}
use Rattle.edit_ops.proofs.ReadableElements.{is_shown, shown_long}
use Rattle.edit_ops.proofs.LiveFound.{offset_next}
use Rattle.edit_ops.proofs.EditedBytes.{all_so}
use Rattle.edit_ops.proofs.PutFields.{fields_rise}
use Rattle.edit_ops.proofs.TreeSpread.{tree_ends}
use Rattle.dgn_audit.specs.declared.finding.Finding.{Finding}
use Rattle.dgn_audit.specs.Findings.{fitted_in}
use Rattle.dgn_audit.specs.Fitting.{fit_puts, root_fields, fit_fields}
use Rattle.dgn_audit.specs.Planned.{IsSpotted}
use Rattle.dgn_audit.specs.Laws.{LiesInElement}
use Rattle.dgn_audit.proofs.TreePlaces.{part_spotted, root_known}
use Rattle.dgn_audit.proofs.FittedBytes.{part_turned, puts_fields}

-- a class with spots isn't silent
spotted_loud : (c : Class) → has_spots c ≡ true → is_silent c ≡ false
spotted_loud Class.Vertices is = refl
spotted_loud Class.Words is = refl
spotted_loud Class.Counted is = refl
spotted_loud Class.Run is = refl
spotted_loud Class.Floating is = refl
spotted_loud Class.Boxed is = refl
spotted_loud Class.Silent is = absurd (let x = is in cc)

-- range spots lie within the first 36 bytes
ranges_rise : (dim p m : ℕ) → IsDimension dim → p + 36 ≤ m → Rise p (spot_fields p (range_spots dim)) m
ranges_rise dim p m axes long =
    in_both (λ (d : ℕ). Rise p (spot_fields p (range_spots d)) m)
    (omega arith, (omega arith, (omega arith, (omega arith, omega (arith, long)))))
    (omega arith, (omega arith, (omega arith, (omega arith, (omega arith, (omega arith, omega (arith, long))))))) axes

module _ (dim : ℕ) (axes : IsDimension dim) (es : List Element) (each : AllByRecursion (IsWellFormed dim) es) where
  -- those of an element that has spots lie in it
  spotted_lies : (f : Finding) → IsSpotted es f → LiesInElement dim es f
  spotted_lies f is =
      let good : IsWellFormed dim is.element = each_at (IsWellFormed dim) es f.number is.element each is.there in
      let long : 36 ≤ size_of is.element = shown_long dim is.element good (is_shown dim is.element good (spotted_loud (class_of is.element.kind) is.spotted)) in
      let next : offset_of es (f.number + 1) ≡ offset_of es f.number + size_of is.element = offset_next es f.number is.element is.there in
      ranges_rise dim (offset_of es f.number) (offset_of es (f.number + 1)) axes (omega (arith, long, next))

  -- so do those of the fitted elements of a tree
  pub fitted_lie : (n root : ℕ) → root_of row_of es n ≡ Some root → All (LiesInElement dim es) (fitted_in dim es root)
  fitted_lie n root at =
      All-from_recursion (LiesInElement dim es) (fitted_in dim es root)
      (all_so (IsSpotted es) (LiesInElement dim es) spotted_lies (fitted_in dim es root) (part_spotted dim es root (root_known es n root (sym at))))

  -- and all of them rise in the tree
  pub fitted_in_tree : (n root end : ℕ) → root_of row_of es n ≡ Some root → span_of row_of es root ≡ Some (root, end)
      → Rise (offset_of es root) (fit_fields dim es n) (offset_of es end)
  fitted_in_tree n root end at span =
      let known : root < length es = root_known es n root (sym at) in
      let turned = part_turned dim axes es each root known in
      let rise : Rise (offset_of es root) (root_fields dim es (Some root)) (offset_of es root + length (spelling (flat (tree_at root (forest row_of es))))) =
      subst (λ (fs : List Field). Rise (offset_of es root) fs (offset_of es root + length (spelling (flat (tree_at root (forest row_of es))))))
      (puts_fields dim es (fitted_in dim es root))
      (fields_rise (offset_of es root + length (spelling (flat (tree_at root (forest row_of es))))) (fit_puts dim es (fitted_in dim es root))
      (offset_of es root) turned.span) in
      subst (λ (fs : List Field). Rise (offset_of es root) fs (offset_of es end)) (ap (root_fields dim es) (sym at))
      (subst (Rise (offset_of es root) (root_fields dim es (Some root))) (sym (tree_ends es root end known span)) rise)
