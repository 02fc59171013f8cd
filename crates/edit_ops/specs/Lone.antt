-- An element that is a tree by itself, and may be edited.
use Rattle.std.specs.Prelude.{ℕ, ◌≡◌, ◌+◌, List, Some, None, false, slice_get, option_map}
use Rattle.dgn_drawing.specs.Element.{Element}
use Rattle.dgn_drawing.specs.Rows.{row_of}
use Rattle.dgn_drawing.specs.Numbering.{span_of, parent_of, first_broken_of}

-- element n is all of its part, and isn't marked deleted
pub record IsOnePart (es : List Element) (n : ℕ) : Type 0 where
  pub one : span_of row_of es n ≡ Some (n, n + 1)
  pub alive : option_map (λ e. e.deleted) (slice_get es n) ≡ Some false

-- it is a root too, and isn't broken
pub record IsLoneRoot (es : List Element) (n : ℕ) : Type 0 where
  pub part : IsOnePart es n
  pub root : parent_of row_of es n ≡ Some None
  pub sound : first_broken_of row_of es n ≡ Some None
