-- The rows of elements say how many bytes these spell.
use Rattle.std.proofs.Common.{◌≡◌, ℕ, ◌+◌, ◌≤◌, List, [], ◌∷◌, length, take, map, refl, sym, ap, ◌∙◌, arith, length-append}
use Rattle.dgn_drawing.specs.declared.row.Row.{Row}
use Rattle.dgn_drawing.specs.Element.{Element}
use Rattle.dgn_drawing.specs.Spelling.{spell, spelling, size_of}
use Rattle.dgn_drawing.specs.Rows.{row_of}

-- the sizes of elements are in their rows
sizes_of : List Row → ℕ
sizes_of [] = 0
sizes_of (r ∷ rs) = r.size + sizes_of rs

spelling_long : (es : List Element) → length (spelling es) ≡ sizes_of (map row_of es)
unfolding sizes_of
spelling_long [] = refl
spelling_long (e ∷ es) = omega (arith, length-append (spell e) (spelling es), spelling_long es)

-- so elements that begin with the rows of others spell as many bytes before those behind
pub front_long : (made es : List Element) (n : ℕ) → map row_of (take n made) ≡ map row_of es → length (spelling (take n made)) ≡ length (spelling es)
front_long made es n front = spelling_long (take n made) ∙ ap sizes_of front ∙ sym (spelling_long es)

-- an element has some bytes
pub some_bytes : (e : Element) → 1 ≤ size_of e
unfolding spell
some_bytes e = omega arith
