-- What holds of every revision that is done.
use Rattle.std.specs.Prelude.{ℕ, ◌≡◌, ◌+◌, ◌≤◌, List, ◌++◌, length}
use Rattle.dgn_drawing.specs.Element.{Element}
use Rattle.dgn_drawing.specs.Spelling.{spelling}
use Rattle.dgn_drawing.specs.Opening.{Opens}
use Rattle.dgn_revision.specs.declared.revision.Revision.{Revision}
use Rattle.dgn_revision.specs.Revisions.{IsRevision}
use Rattle.edit_ops.specs.Fields.{Rise}
use Rattle.edit_ops.specs.Laws.{ChangesFields}
use Rattle.edit_ops.specs.RevisionRules.{made_behind}
use Rattle.edit_ops.specs.Revised.{Makes, revise, revised_fields, revised_forest}
use Rattle.dgn_drawing.specs.declared.limits.TheConstants.{MOST_DESIGN}

-- what it leaves opens in the same dimension, with the same tail
abbrev pub RevisedDrawingsOpen : Type 0
RevisedDrawingsOpen =
    (f : List ℕ) (dim : ℕ) (es : List Element) (t : List ℕ) (rest n : ℕ) (r : Revision) (made : List Element)
    → IsRevision r → Opens f dim es t → revise dim es rest n r ≡ Makes made → Opens (spelling made ++ t) dim made t

-- and where the elements and the rest keep the limit of a design file, so do those that it makes and the rest
abbrev pub RevisedDrawingsFit : Type 0
RevisedDrawingsFit =
    (f : List ℕ) (dim : ℕ) (es : List Element) (t : List ℕ) (rest n : ℕ) (r : Revision) (made : List Element)
    → IsRevision r → Opens f dim es t → revise dim es rest n r ≡ Makes made → length (spelling es) + rest ≤ MOST_DESIGN
    → length (spelling made) + rest ≤ MOST_DESIGN

-- it changes its fields alone, is longer only by what it makes behind the drawing, and its trees are the changed ones with
-- that behind them
abbrev pub RevisionsChangeTheirFields : Type 0
RevisionsChangeTheirFields =
    (f : List ℕ) (dim : ℕ) (es : List Element) (t : List ℕ) (rest n : ℕ) (r : Revision) (made : List Element)
    → IsRevision r → Opens f dim es t → revise dim es rest n r ≡ Makes made
    → ChangesFields es made (revised_fields dim es n r) (length (spelling (made_behind dim es n r))) (revised_forest dim es n r)

-- and its fields rise within the elements, so no two share a byte
abbrev pub RevisedFieldsAreApart : Type 0
RevisedFieldsAreApart =
    (f : List ℕ) (dim : ℕ) (es : List Element) (t : List ℕ) (rest n : ℕ) (r : Revision) (made : List Element)
    → IsRevision r → Opens f dim es t → revise dim es rest n r ≡ Makes made → Rise 0 (revised_fields dim es n r) (length (spelling es))
