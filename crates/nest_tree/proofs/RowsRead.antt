-- The rows that are read are those of all from a number on.
use Rattle.std.proofs.Common.{◌≡◌, ◌<◌, ◌≤◌, ◌-◌, get_or, sym, ap, ◌∙◌, ◌+◌, ℕ, List, drop, length, arith}
use Rattle.std.specs.Prelude.{Some, slice_get}
use Rattle.std.proofs.lemmas.List.{length-drop, get_or-drop}
use Rattle.std.proofs.lemmas.Option.{slice_get-get_or}
use Rattle.dgn_drawing.specs.declared.row.Row.{Row}
use Rattle.nest_tree.specs.Sources.{no_row}

pub length-read : (list rows : List Row) (first : ℕ) → rows ≡ drop first list → first ≤ length list → first + length rows ≡ length list
length-read list rows first are within = omega (arith, length-drop first list, ap (length {A = Row}) are)

-- one of them is the one that stands there among all
pub row_at : (list rows : List Row) (first at : ℕ) → rows ≡ drop first list → first ≤ at → at < length list
    → Some (get_or rows (at - first) no_row) ≡ slice_get list at
row_at list rows first at are from before =
    let place : first + (at - first) ≡ at = omega arith in
    ap (λ (l : List Row). Some (get_or l (at - first) no_row)) are ∙ ap (λ (r : Row). Some r) (get_or-drop first list (at - first) no_row)
    ∙ ap (λ (k : ℕ). Some (get_or list k no_row)) place ∙ sym (slice_get-get_or list at no_row before)

-- an element of a list that is read is among them
pub inside_rows : (list rows : List Row) (first at end : ℕ) → rows ≡ drop first list → first ≤ at → at < end → end ≤ length list → at - first < length rows
inside_rows list rows first at end are from before within = omega (arith, length-read list rows first are (omega arith))
