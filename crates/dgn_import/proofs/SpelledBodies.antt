-- The body of a whole design is what its elements spell.
use Rattle.std.proofs.Common.{◌≡◌, ℕ, List, sym, ap, ◌∙◌}
use Rattle.dgn_drawing.specs.Opening.{elements_of}
use Rattle.dgn_drawing.specs.Spelling.{spelling}
use Rattle.dgn_drawing.proofs.Fronts.{body_spelled}
use Rattle.elem_index.specs.declared.design.Design.{Design}
use Rattle.elem_index.specs.Design.{elements, IsWhole}

-- the elements of the drawing spell its body
pub spelled_with : (dim : ℕ) (body : List ℕ) (d : Design) → IsWhole d → d.dim ≡ dim → d.body.items ≡ body → d.body.items ≡ spelling (elements_of dim body)
spelled_with dim body d whole axes text =
    sym (body_spelled d.body.items d.tail.items d.dim (elements d) whole.is_open.opens)
    ∙ ap (λ (k : ℕ). spelling (elements_of k d.body.items)) axes
    ∙ ap (λ (b : List ℕ). spelling (elements_of dim b)) text
