-- What an appended element leaves: the elements as they were, and it behind them.
use Rattle.std.proofs.Common.{◌≡◌, ℕ, ◌+◌, ◌≤◌, ◌==◌, List, [], ◌∷◌, ◌++◌, length, false, refl, sym, ap, ◌∙◌, subst, arith}
use Rattle.std.specs.Prelude.{nat_lt, None}
use Rattle.std.specs.List.{AllByRecursion}
use Rattle.std.proofs.lemmas.Bool.{eqb-true, ltb-false}
use Rattle.dgn_layout.specs.Classes.{class_of, is_among}
use Rattle.dgn_drawing.specs.declared.edit.Edit.TheVariants as edit
use Rattle.dgn_drawing.specs.declared.new_shape.NewShape.{NewShape}
use Rattle.dgn_drawing.specs.declared.new_shape.NewShape.TheVariants as shapes
use Rattle.dgn_drawing.specs.Element.{Element}
use Rattle.dgn_drawing.specs.Spelling.{spelling}
use Rattle.dgn_drawing.specs.WellFormed.{IsWellFormed}
use Rattle.dgn_drawing.specs.Rows.{row_of}
use Rattle.dgn_drawing.specs.Nesting.{Leaf, NoTree, Tree, is_counted, flat, forest}
use Rattle.dgn_drawing.specs.NewElements.{NewElement, IsNew, kind_made, element_made}
use Rattle.dgn_drawing.specs.Opening.{BeginsWithTcb}
use Rattle.dgn_drawing.proofs.MadeElements.{made_good}
use Rattle.nest_tree.proofs.NestingSteps.{flat-forest}
use Rattle.edit_ops.specs.declared.causes.cause.Cause.TheVariants as causes
use Rattle.edit_ops.specs.Causes.{other_axes, too_long, bytes_appended, cause_of}
use Rattle.edit_ops.specs.Applying.{changed_forest}
use Rattle.edit_ops.proofs.PartPlace.{flat-joined}
use Rattle.edit_ops.proofs.FirstElement.{some_element}
use Rattle.edit_ops.proofs.AcceptedEdit.{none_both, met, unmet}
use Rattle.edit_ops.proofs.PartNestsAlone.{leaf_appended}
use Rattle.edit_ops.proofs.WhatIsLeft.{IsLeft, behind_left}
use Rattle.dgn_drawing.specs.declared.limits.TheConstants.{MOST_DESIGN}

-- a file that isn't too long with so many more bytes
pub short_left : (body rest more : ℕ) → too_long (body + rest + more) ≡ None → body + (rest + more) ≤ MOST_DESIGN
short_left body rest more short =
    let few : body + rest + more ≤ MOST_DESIGN = ltb-false MOST_DESIGN _ (unmet (nat_lt MOST_DESIGN (body + rest + more)) causes.TooLong short) in
    omega arith

-- a new element is neither a counted header nor begins a run
plain_made : (s : NewShape) → is_counted (class_of (kind_made s)) ≡ false
plain_made (shapes.Line points) = refl
plain_made (shapes.Chain points) = refl
plain_made (shapes.Shape points) = refl
plain_made (shapes.Text font just text_length text_height origin chars) = refl

straight_made : (s : NewShape) → is_among (kind_made s) (24 ∷ 27 ∷ []) ≡ false
straight_made (shapes.Line points) = refl
straight_made (shapes.Chain points) = refl
straight_made (shapes.Shape points) = refl
straight_made (shapes.Text font just text_length text_height origin chars) = refl

own_made : (s : NewShape) → (kind_made s == 34) ≡ false
own_made (shapes.Line points) = refl
own_made (shapes.Chain points) = refl
own_made (shapes.Shape points) = refl
own_made (shapes.Text font just text_length text_height origin chars) = refl

-- an appended element that isn't refused is for the file's axes, and leaves a file that isn't too long
pub append_causes : (dim : ℕ) (es : List Element) (rest : ℕ) (new : NewElement) → cause_of dim es rest (edit.Append new) ≡ None
    → (new.axes ≡ dim) × (too_long (length (spelling es) + rest + bytes_appended es (edit.Append new)) ≡ None)
append_causes dim es rest new none =
    let axes = none_both (other_axes dim new.axes) _ none in
    let short = none_both (too_long (length (spelling es) + rest + bytes_appended es (edit.Append new))) None axes.1 in
    (eqb-true new.axes dim (met (new.axes == dim) causes.Dimension axes.0), short.0)

-- the elements that it leaves
append_leaves : (dim : ℕ) (es : List Element) (new : NewElement) → flat (changed_forest dim es (edit.Append new)) ≡ es ++ (element_made new ∷ [])
append_leaves dim es new =
    flat-joined (forest row_of es) (Tree Leaf (element_made new) NoTree NoTree)
    ∙ ap (λ (l : List Element). l ++ (element_made new ∷ [])) (flat-forest row_of es)

-- what is left with an appended element that isn't refused
pub append_left : (dim : ℕ) (es : List Element) (rest : ℕ) (new : NewElement) → AllByRecursion (IsWellFormed dim) es → BeginsWithTcb es → IsNew new
    → cause_of dim es rest (edit.Append new) ≡ None
    → IsLeft dim es [] [] (element_made new ∷ []) (changed_forest dim es (edit.Append new))
append_left dim es rest new each first fits none =
    let axes : new.axes ≡ dim = (append_causes dim es rest new none).0 in
    let good : IsWellFormed dim (element_made new) = subst (λ (d : ℕ). IsWellFormed d (element_made new)) axes (made_good new fits).good in
    behind_left dim es (element_made new ∷ []) (changed_forest dim es (edit.Append new)) each first (append_leaves dim es new)
    (leaf_appended es (element_made new) (some_element es first) refl (plain_made new.shape) (straight_made new.shape) (own_made new.shape))
    (good, tt) refl
