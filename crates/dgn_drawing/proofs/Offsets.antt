-- Where elements begin: as many offsets as elements, each the bytes of the elements before it.
use Rattle.std.proofs.Common.{◌≡◌, ℕ, zero, suc, ◌+◌, ◌<◌, List, [], ◌∷◌, ◌++◌, length, take, drop, map, get_or, refl, ap, ◌∙◌, append_assoc, arith}
use Rattle.std.proofs.Common.{length-append}
use Rattle.std.proofs.lemmas.List.{drop_at, drop-drop}
use Rattle.dgn_drawing.specs.declared.row.Row.{Row}
use Rattle.dgn_drawing.specs.Element.{Element}
use Rattle.dgn_drawing.specs.Spelling.{spell, spelling, size_of}
use Rattle.dgn_drawing.specs.Rows.{row_of}
use Rattle.dgn_drawing.specs.Opening.{offsets_from}

-- one for each piece
pub length-offsets_from : (p : ℕ) (sizes : List ℕ) → length (offsets_from p sizes) ≡ length sizes
length-offsets_from p [] = refl
length-offsets_from p (size ∷ sizes) = ap suc (length-offsets_from (p + size) sizes)

-- the offset of element n is the length of the spellings before it
pub get_or-offsets_from : (p n : ℕ) (es : List Element) → n < length es → get_or (offsets_from p (map size_of es)) n 0 ≡ p + length (spelling (take n es))
get_or-offsets_from p n [] within = absurd (omega arith)
get_or-offsets_from p zero (e ∷ es) within = omega arith
get_or-offsets_from p (suc n) (e ∷ es) within =
    omega (arith, get_or-offsets_from (p + size_of e) n es (omega arith), length-append (spell e) (spelling (take n es)))

-- offsets of the first ones are the first offsets
pub take-offsets_from : (p n : ℕ) (sizes : List ℕ) → take n (offsets_from p sizes) ≡ offsets_from p (take n sizes)
take-offsets_from p zero sizes = refl
take-offsets_from p (suc n) [] = refl
take-offsets_from p (suc n) (size ∷ sizes) = ap (λ z. p ∷ z) (take-offsets_from (p + size) n sizes)

-- the sizes of the rows are those of the elements
pub sizes-rows : (es : List Element) → map (λ (r : Row). r.size) (map row_of es) ≡ map size_of es
sizes-rows [] = refl
sizes-rows (e ∷ es) = ap (λ z. size_of e ∷ z) (sizes-rows es)

-- one more element begins behind those before it
pub offsets_from-more : (p : ℕ) (es : List Element) (e : Element) → offsets_from p (map size_of (es ++ e ∷ [])) ≡ offsets_from p (map size_of es)
    ++ (p + length (spelling es)) ∷ []
offsets_from-more p [] e = ap (λ (k : ℕ). k ∷ []) (omega arith)
offsets_from-more p (x ∷ es) e =
    ap (λ z. p ∷ z) (offsets_from-more (p + size_of x) es e
    ∙ ap (λ (k : ℕ). offsets_from (p + size_of x) (map size_of es) ++ k ∷ []) (omega (arith, length-append (spell x) (spelling es))))

-- at the offset of element n its spelling stands, and behind it those that follow
pub drop-offset : (es : List Element) (t : List ℕ) (n : ℕ) (d : Element) → n < length es
    → drop (length (spelling (take n es))) (spelling es ++ t) ≡ spell (get_or es n d) ++ (spelling (drop (suc n) es) ++ t)
drop-offset [] t n d within = absurd (omega arith)
drop-offset (e ∷ es) t zero d within = append_assoc (spell e) (spelling es) t
drop-offset (e ∷ es) t (suc n) d within =
    let size = length-append (spell e) (spelling (take n es)) in
    rw (
      size,
      ← drop-drop (length (spelling (take n es))) (size_of e) ((spell e ++ spelling es) ++ t),
      append_assoc (spell e) (spelling es) t,
      drop_at (spell e) (spelling es ++ t) (size_of e) refl,
    )
    (drop-offset es t n d (omega arith))
