-- What an edit that is done makes of the elements of a drawing, whatever it is: it writes fields and appends.
use Rattle.std.proofs.Common.{◌≡◌, ℕ, ◌+◌, ◌≤◌, List, ◌++◌, length, take, drop, map, arith}
use Rattle.patch_bytes.specs.Puts.{write}
use Rattle.dgn_drawing.specs.declared.edit.Edit.{Edit}
use Rattle.dgn_drawing.specs.declared.fence_edit.FenceEdit.{FenceEdit}
use Rattle.dgn_drawing.specs.Element.{Element}
use Rattle.dgn_drawing.specs.Spelling.{spelling}
use Rattle.dgn_drawing.specs.Rows.{row_of}
use Rattle.dgn_drawing.specs.Nesting.{BeginsFree}
use Rattle.dgn_drawing.specs.Opening.{Opens}
use Rattle.edit_ops.specs.Applying.{Done, apply, IsEdit}
use Rattle.edit_ops.specs.Fields.{Field, Rise, filled}
use Rattle.edit_ops.specs.EditedFields.{edited_fields}
use Rattle.edit_ops.specs.Fenced.{apply_all, fenced_fields, AreRoots, IsFenceEdit}
use Rattle.edit_ops.proofs.FieldsRise.{fields_apart}
use Rattle.edit_ops.proofs.FenceLaws.{fenced_opens, fenced_fits, fenced_changes, fenced_apart}
use Rattle.edit_ops.proofs.EditLaws.{edited_opens, edited_fits, changes_fields}
use Rattle.dgn_drawing.specs.declared.limits.TheConstants.{MOST_DESIGN}

-- elements of a drawing that opens with this tail become others: these open with it too and keep the limit of a design
-- file, are the old ones with the fields written and others behind them, and no row changes; the fields rise
pub record Become (dim : ℕ) (tail : List ℕ) (es : List Element) (fields : List Field) (made : List Element) : Type 0 where
  pub opens : Opens (spelling made ++ tail) dim made tail
  pub few : length (spelling made) + length tail ≤ MOST_DESIGN
  pub written : spelling made ≡ write (spelling es) (filled (spelling made) fields) ++ drop (length (spelling es)) (spelling made)
  pub long : length (spelling es) ≤ length (spelling made)
  pub rows : map row_of (take (length es) made) ≡ map row_of es
  pub appended : BeginsFree row_of (drop (length es) made)
  pub rise : Rise 0 fields (length (spelling es))

-- so they do by an edit that is done
pub edit_becomes : (f : List ℕ) (dim : ℕ) (es : List Element) (tail : List ℕ) (e : Edit) (made : List Element) → IsEdit e → Opens f dim es tail
    → length (spelling es) + length tail ≤ MOST_DESIGN → apply dim es (length tail) e ≡ Done made → Become dim tail es (edited_fields dim es e) made
edit_becomes f dim es tail e made fits opens few done =
    let changed = changes_fields f dim es tail (length tail) e made fits opens done in
    let apart = fields_apart f dim es tail (length tail) e made fits opens done in
    record {
      opens = edited_opens f dim es tail (length tail) e made fits opens done;
      few = edited_fits f dim es tail (length tail) e made fits opens done few;
      written = changed.written;
      long = let long = changed.long in omega arith;
      rows = changed.rows;
      appended = changed.appended;
      rise = apart.rise;
    }

-- and by an edit of some roots that is done
pub fence_becomes : (f : List ℕ) (dim : ℕ) (es : List Element) (tail : List ℕ) (e : FenceEdit) (ns : List ℕ) (made : List Element) → IsFenceEdit e
    → AreRoots es ns → Opens f dim es tail
    → length (spelling es) + length tail ≤ MOST_DESIGN → apply_all dim es (length tail) e ns ≡ Done made → Become dim tail es (fenced_fields dim es e ns) made
fence_becomes f dim es tail e ns made fits roots opens few done =
    let changed = fenced_changes f dim es tail (length tail) e ns made fits roots opens done in
    record {
      opens = fenced_opens f dim es tail (length tail) e ns made fits roots opens done;
      few = fenced_fits f dim es tail (length tail) e ns made fits roots opens done few;
      written = changed.written;
      long = let long = changed.long in omega arith;
      rows = changed.rows;
      appended = changed.appended;
      rise = (fenced_apart f dim es tail (length tail) e ns made fits roots opens done).rise;
    }
