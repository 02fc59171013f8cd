-- What holds of every fit that is done.
use Rattle.std.specs.Prelude.{ℕ, ◌≡◌, ◌+◌, ◌<◌, ◌&&◌, not, nat_lt, nat_le, Bool, Some, List, ◌++◌, length, map, filter, slice_index, All, Contains}
use Rattle.patch_bytes.specs.Puts.{write}
use Rattle.dgn_drawing.specs.Element.{Element}
use Rattle.dgn_drawing.specs.Spelling.{spelling}
use Rattle.dgn_drawing.specs.Rows.{row_of}
use Rattle.dgn_drawing.specs.Nesting.{forest}
use Rattle.dgn_drawing.specs.Numbering.{root_of, span_of}
use Rattle.dgn_drawing.specs.Opening.{Opens}
use Rattle.dgn_layout.specs.Spots.{range_spots}
use Rattle.elem_index.specs.Offsets.{offset_of}
use Rattle.edit_ops.specs.Fields.{IsIn, Rise, spot_fields, filled}
use Rattle.dgn_audit.specs.declared.finding.Finding.{Finding}
use Rattle.dgn_audit.specs.Findings.{findings, fitted_in}
use Rattle.edit_ops.specs.Applying.{Done}
use Rattle.dgn_audit.specs.Fitting.{apply_fit, fitted_forest, fit_fields}

-- what a fit that is done leaves opens in the same dimension, with the same tail
abbrev pub FittedDrawingsOpen : Type 0
FittedDrawingsOpen =
    (f : List ℕ) (dim : ℕ) (es : List Element) (t : List ℕ) (n : ℕ) (made : List Element)
    → Opens f dim es t → apply_fit dim es n ≡ Done made → Opens (spelling made ++ t) dim made t

-- the range spots of an element that is told of lie in it: they rise from its first byte to its end
abbrev pub LiesInElement : ℕ → List Element → Finding → Type 0
LiesInElement dim es f =
    Rise (offset_of es f.number) (spot_fields (offset_of es f.number) (range_spots dim)) (offset_of es (f.number + 1))

-- its result has the old bytes in no field, and is the old bytes with these written; it is as long, no row changes, its
-- trees are the fitted ones; and its fields rise within the elements, so no two share a byte, and from the first byte of
-- the fitted tree to that tree's end; those of each fitted element lie in it
pub record FitsItsFields (dim : ℕ) (es : List Element) (n : ℕ) (made : List Element) : Type 0 where
  pub stays : (k : ℕ) → k < length (spelling es) → All (λ f. ¬ IsIn f k) (fit_fields dim es n)
      → slice_index (spelling made) k ≡ slice_index (spelling es) k
  pub written : spelling made ≡ write (spelling es) (filled (spelling made) (fit_fields dim es n))
  pub long : length (spelling made) ≡ length (spelling es)
  pub rows : map row_of made ≡ map row_of es
  pub nested : (root : ℕ) → root_of row_of es n ≡ Some root → forest row_of made ≡ fitted_forest dim es root
  pub rise : Rise 0 (fit_fields dim es n) (length (spelling es))
  pub in_tree : (root end : ℕ) → root_of row_of es n ≡ Some root → span_of row_of es root ≡ Some (root, end)
      → Rise (offset_of es root) (fit_fields dim es n) (offset_of es end)
  pub within : (root : ℕ) → root_of row_of es n ≡ Some root → All (LiesInElement dim es) (fitted_in dim es root)

abbrev pub FitsChangeTheirFields : Type 0
FitsChangeTheirFields =
    (f : List ℕ) (dim : ℕ) (es : List Element) (t : List ℕ) (n : ℕ) (made : List Element)
    → Opens f dim es t → apply_fit dim es n ≡ Done made → FitsItsFields dim es n made

-- whether what is told is told of an element outside these numbers
abbrev pub is_outside : ℕ → ℕ → Finding → Bool
is_outside first end f = not (nat_le first f.number && nat_lt f.number end)

-- after it no element of the tree that holds element n is a finding, and the findings of all other trees are as before
abbrev pub FitsEndFindings : Type 0
FitsEndFindings =
    (f : List ℕ) (dim : ℕ) (es : List Element) (t : List ℕ) (n : ℕ) (made : List Element) (root end : ℕ)
    → Opens f dim es t → apply_fit dim es n ≡ Done made → root_of row_of es n ≡ Some root → span_of row_of es root ≡ Some (root, end)
    → findings dim made ≡ filter (is_outside root end) (findings dim es)

-- an element that is told of is so among the fitted elements of the tree of its root
pub record IsFittedInItsTree (dim : ℕ) (es : List Element) (f : Finding) : Type 0 where
  pub root : ℕ
  pub at : root_of row_of es f.number ≡ Some root
  pub among : Contains (fitted_in dim es root) f

-- every finding is fitted in its tree
abbrev pub FindingsAreFitted : Type 0
FindingsAreFitted = (dim : ℕ) (es : List Element) → All (IsFittedInItsTree dim es) (findings dim es)
