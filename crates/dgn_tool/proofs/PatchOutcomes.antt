-- What `apply` comes to, by what was read of IN and PATCH and by what the entries made.
use Rattle.std.proofs.Common.{◌≡◌, ◌-◌, List, ℕ, length, Err, refl, sym, ap, ◌∙◌, arith}
use Rattle.std.specs.Prelude.{codes}
use Rattle.elem_index.specs.declared.design.Design.{Design}
use Rattle.elem_index.specs.Design.{IsWhole}
use Rattle.elem_index.specs.Answers.{opened_of}
use Rattle.patch_file.specs.Spelling.{Packed}
use Rattle.patch_file.specs.Reading.{patch_of}
use Rattle.patch_file.specs.BadPieces.{IsBadAt}
use Rattle.patch_file.proofs.BadAgain.{patch_bad}
use Rattle.dgn_tool.specs.Applied.{Patched, put_from, patched_outcome, entries_outcome, patched}
use Rattle.dgn_tool.specs.Inputs.{entries_read}
use Rattle.dgn_tool.specs.Ended.{ended}
use Rattle.dgn_listing.specs.NumberedLines.{numbered}
use Rattle.dgn_tool.specs.declared.status.Status.TheVariants as statuses
use Rattle.dgn_import.proofs.SpelledBodies.{spelled_with}

-- a bad piece ends the run
pub bad_ends : (text : List ℕ) (offset : ℕ) → IsBadAt text offset
    → entries_read (length text) (patch_of text) ≡ Err (ended statuses.BadPatch (numbered (codes "bad patch at ") offset))
bad_ends text offset bad =
    let place = bad.place in
    let at_offset : length text - bad.left ≡ offset = omega arith in
    ap (entries_read (length text)) (patch_bad text bad.left bad.bad)
    ∙ ap (λ (n : ℕ). Err (ended statuses.BadPatch (numbered (codes "bad patch at ") n))) at_offset

-- what entries come to on the drawing of a whole design
pub patched_as : (d : Design) (es : List Packed) (output : List ℕ) → IsWhole d
    → patched (opened_of d) es output ≡ entries_outcome d.body.items d.tail.items es output
patched_as d es output whole =
    ap (λ (b : List ℕ). entries_outcome b d.tail.items es output) (sym (spelled_with d.dim d.body.items d whole refl refl))

-- what entries come to, by what they made
pub entries_made : (b tail output : List ℕ) (es : List Packed) (made : Patched) → put_from (length tail) 1 b es ≡ made
    → entries_outcome b tail es output ≡ patched_outcome (length b) tail (length es) made output
entries_made b tail output es made is = ap (λ (p : Patched). patched_outcome (length b) tail (length es) p output) is
