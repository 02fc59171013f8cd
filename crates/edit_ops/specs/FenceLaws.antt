-- What holds of every edit of several roots that is done.
use Rattle.std.specs.Prelude.{ℕ, ◌≡◌, ◌+◌, ◌≤◌, List, ◌++◌, length, All}
use Rattle.dgn_drawing.specs.declared.fence_edit.FenceEdit.{FenceEdit}
use Rattle.dgn_drawing.specs.Element.{Element}
use Rattle.dgn_drawing.specs.Spelling.{spelling}
use Rattle.dgn_drawing.specs.Opening.{Opens}
use Rattle.edit_ops.specs.Applying.{Done}
use Rattle.edit_ops.specs.Fields.{Rise}
use Rattle.edit_ops.specs.Laws.{ChangesFields, FieldsLieApart}
use Rattle.edit_ops.specs.Fenced.{apply_all, fenced_forest, fenced_fields, edit_at, edits_at, all_appended, AreRoots, IsFenceEdit}
use Rattle.dgn_drawing.specs.declared.limits.TheConstants.{MOST_DESIGN}

-- what it leaves opens in the same dimension, with the same tail
abbrev pub FencedDrawingsOpen : Type 0
FencedDrawingsOpen =
    (f : List ℕ) (dim : ℕ) (es : List Element) (t : List ℕ) (rest : ℕ) (e : FenceEdit) (ns : List ℕ) (made : List Element)
    → IsFenceEdit e → AreRoots es ns → Opens f dim es t → apply_all dim es rest e ns ≡ Done made
    → Opens (spelling made ++ t) dim made t

-- and where the elements and the rest keep the limit of a design file, so do those that it makes and the rest
abbrev pub FencedDrawingsFit : Type 0
FencedDrawingsFit =
    (f : List ℕ) (dim : ℕ) (es : List Element) (t : List ℕ) (rest : ℕ) (e : FenceEdit) (ns : List ℕ) (made : List Element)
    → IsFenceEdit e → AreRoots es ns → Opens f dim es t → apply_all dim es rest e ns ≡ Done made
    → length (spelling es) + rest ≤ MOST_DESIGN → length (spelling made) + rest ≤ MOST_DESIGN

-- it changes its fields alone, is longer only by the copies, and its trees are those of which the chosen ones are changed,
-- or the trees as they were with the copies behind them
abbrev pub ChangesFencedFields : ℕ → List Element → FenceEdit → List ℕ → List Element → Type 0
ChangesFencedFields dim es e ns made = ChangesFields es made (fenced_fields dim es e ns) (all_appended es (edits_at e ns)) (fenced_forest dim es e ns)

abbrev pub FenceEditsChangeTheirFields : Type 0
FenceEditsChangeTheirFields =
    (f : List ℕ) (dim : ℕ) (es : List Element) (t : List ℕ) (rest : ℕ) (e : FenceEdit) (ns : List ℕ) (made : List Element)
    → IsFenceEdit e → AreRoots es ns → Opens f dim es t → apply_all dim es rest e ns ≡ Done made
    → ChangesFencedFields dim es e ns made

-- its fields rise within the elements, so no two share a byte; and those of each root lie as those of an edit of that
-- root alone: in the root's tree, and each in its element
pub record FencedFieldsLieApart (dim : ℕ) (es : List Element) (e : FenceEdit) (ns : List ℕ) : Type 0 where
  pub rise : Rise 0 (fenced_fields dim es e ns) (length (spelling es))
  pub each_root : All (λ n. FieldsLieApart dim es (edit_at e n)) ns

abbrev pub FencedFieldsAreApart : Type 0
FencedFieldsAreApart =
    (f : List ℕ) (dim : ℕ) (es : List Element) (t : List ℕ) (rest : ℕ) (e : FenceEdit) (ns : List ℕ) (made : List Element)
    → IsFenceEdit e → AreRoots es ns → Opens f dim es t → apply_all dim es rest e ns ≡ Done made
    → FencedFieldsLieApart dim es e ns
