-- What a fit does to the states of the session machine, and what it ends.
use Rattle.std.specs.Prelude.{ℕ, ◌≡◌, ◌<◌, false, List, Some, filter, length, slice_index, All}
use Rattle.undo_log.specs.declared.entry.Entry.{Entry}
use Rattle.dgn_drawing.specs.Element.{Element}
use Rattle.dgn_drawing.specs.Spelling.{spelling}
use Rattle.dgn_drawing.specs.Rows.{row_of}
use Rattle.dgn_drawing.specs.Numbering.{root_of, span_of}
use Rattle.edit_ops.specs.Applying.{Applied, Done}
use Rattle.edit_ops.specs.Fields.{IsIn}
use Rattle.dgn_audit.specs.Findings.{findings}
use Rattle.dgn_audit.specs.Fitting.{apply_fit, fit_fields}
use Rattle.dgn_audit.specs.Laws.{is_outside}
use Rattle.dgn_session.specs.State.{State, push_made, after_undo, undo_refused, entry_with}
use Rattle.dgn_session.specs.Laws.{opened_in}

-- what a fit of the tree that holds element n comes to in a state
abbrev pub fit_applied : ℕ → State → Applied
fit_applied n s = apply_fit s.dim s.top n

-- one that is done pushes what it makes, and one that is refused leaves the state
abbrev pub after_fit : ℕ → State → State
after_fit n s = push_made (fit_applied n s) s

-- the entry of a fit of these elements
abbrev pub fit_entry : ℕ → List Element → ℕ → Entry
fit_entry dim es n = entry_with es (fit_fields dim es n)

-- the tree that holds element n has no finding any more, the findings of all other trees are as before, and each byte in
-- no field of the fit is the same
pub record IsFit (dim : ℕ) (es : List Element) (n : ℕ) (made : List Element) : Type 0 where
  pub ended : (root end : ℕ) → root_of row_of es n ≡ Some root → span_of row_of es root ≡ Some (root, end)
      → findings dim made ≡ filter (is_outside root end) (findings dim es)
  pub stays : (k : ℕ) → k < length (spelling es) → All (λ f. ¬ IsIn f k) (fit_fields dim es n)
      → slice_index (spelling made) k ≡ slice_index (spelling es) k

-- after a fit that is done an undo is not refused, and gives the state before
abbrev pub FitsAreUndone : Type 0
FitsAreUndone = (s : State) (n : ℕ) (made : List Element) → fit_applied n s ≡ Done made
    → (after_undo (after_fit n s) ≡ s) × (undo_refused (after_fit n s) ≡ false)

-- the opened elements stay
abbrev pub OpenedStayFitted : Type 0
OpenedStayFitted = (s : State) (n : ℕ) → opened_in (after_fit n s) ≡ opened_in s
