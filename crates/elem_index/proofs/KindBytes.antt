-- The bytes and totals that are kept of elements, and what rows they say.
use Rattle.std.proofs.Common.{◌≡◌, ℕ, ◌+◌, ◌*◌, ◌%◌, ◌<◌, ◌≤◌, Bool, true, false, cond, List, [], ◌∷◌, ◌++◌, length, take, map, get_or, refl, sym, ap}
use Rattle.std.proofs.Common.{◌∙◌, arith, length-append}
use Rattle.std.specs.List.{AllByRecursion}
use Rattle.std.proofs.lemmas.List.{map-append, length-map, take-map, get_or_append_left}
use Rattle.dgn_layout.specs.declared.types.Class.{Class}
use Rattle.dgn_layout.specs.Classes.{class_of}
use Rattle.elem_head.specs.Head.{kind_of}
use Rattle.dgn_drawing.specs.Element.{Element}
use Rattle.dgn_drawing.specs.Spelling.{bit, spell}
use Rattle.dgn_drawing.specs.WellFormed.{IsDimension, IsWellFormed}
use Rattle.dgn_drawing.specs.Nesting.{is_counted}
use Rattle.dgn_drawing.specs.Rows.{row_of, total_in}
use Rattle.dgn_drawing.proofs.BodyEnds.{total_within}
use Rattle.dgn_drawing.proofs.Rows.{row_at-spell}
use Rattle.elem_index.specs.Kinds.{Kind, totals_kept}
use Rattle.elem_index.specs.Design.{kind_byte, kind_bytes, kind_byte_at, kind_of_row, kind_at, kinds_in, totals_of}
use Rattle.elem_index.proofs.Places.{sound_spell, counted_class}

-- the type that a byte says is that of which it was made
pub byte_kind : (kind : ℕ) (cbit : Bool) → kind < 128 → (kind + bit 128 cbit) % 128 ≡ kind
byte_kind kind true small = omega arith
byte_kind kind false small = omega arith

-- there are as many as elements
pub length-kind_bytes : (es : List Element) → length (kind_bytes es) ≡ length es
length-kind_bytes es = length-map (map row_of es) kind_byte ∙ length-map es row_of

pub length-kinds_in : (es : List Element) → length (kinds_in es) ≡ length es
length-kinds_in es = length-map (map row_of es) kind_of_row ∙ length-map es row_of

-- the bytes alone
pub bytes-kinds_in : (es : List Element) → map (λ (kind : Kind). kind.byte) (kinds_in es) ≡ kind_bytes es
bytes-kinds_in [] = refl
bytes-kinds_in (e ∷ es) = ap (λ (l : List ℕ). kind_byte (row_of e) ∷ l) (bytes-kinds_in es)

-- the totals alone
pub totals-kinds_in : (dim : ℕ) (es : List Element) → AllByRecursion (IsWellFormed dim) es → totals_kept (kinds_in es) ≡ totals_of es
totals-kinds_in dim [] each = refl
totals-kinds_in dim (e ∷ es) each =
    let total : ℕ = (row_of e).total in
    ap (λ (k : ℕ). cond (is_counted (class_of k)) (total ∷ totals_kept (kinds_in es)) (totals_kept (kinds_in es))) (byte_kind e.kind e.cbit each.0.kind)
    ∙ ap (λ (l : List ℕ). cond (is_counted (class_of e.kind)) (total ∷ l) l) (totals-kinds_in dim es each.1)

-- those of one element more
pub kinds_in-more : (es : List Element) (e : Element) → kinds_in (es ++ e ∷ []) ≡ kinds_in es ++ kind_of_row (row_of e) ∷ []
kinds_in-more es e = ap (map kind_of_row) (map-append row_of es (e ∷ [])) ∙ map-append kind_of_row (map row_of es) (row_of e ∷ [])

-- the first ones are those of the first elements
pub kinds_in-take : (k : ℕ) (es : List Element) → kinds_in (take k es) ≡ take k (kinds_in es)
kinds_in-take k es = ap (map kind_of_row) (sym (take-map row_of k es)) ∙ sym (take-map kind_of_row k (map row_of es))

-- where the rows are the first ones of others, so are the bytes and totals
pub kinds_in-front : (es fs : List Element) (n : ℕ) → map row_of es ≡ take n (map row_of fs) → kinds_in es ≡ take n (kinds_in fs)
kinds_in-front es fs n rows = ap (map kind_of_row) rows ∙ sym (take-map kind_of_row n (map row_of fs))

-- a total stands in the first bytes
total_before : (c : Class) (b behind : List ℕ) → (c ≡ Class.Counted → 40 ≤ length b) → total_in c (b ++ behind) ≡ total_in c b
total_before Class.Silent b behind long = refl
total_before Class.Vertices b behind long = refl
total_before Class.Words b behind long = refl
total_before Class.Counted b behind long =
    let forty : 40 ≤ length b = long refl in
    ap (λ (low : ℕ). low + 256 * get_or (b ++ behind) 37 0) (get_or_append_left b behind 0 36 (omega (arith, forty)))
    ∙ ap (λ (high : ℕ). get_or b 36 0 + 256 * high) (get_or_append_left b behind 0 37 (omega (arith, forty)))
total_before Class.Run b behind long = refl
total_before Class.Floating b behind long = refl
total_before Class.Boxed b behind long = refl

-- both are read from the bytes of the element, whatever stands behind them
module _ (dim : ℕ) (e : Element) (axes : IsDimension dim) (good : IsWellFormed dim e) (behind : List ℕ) where
  long : class_of (kind_of (spell e)) ≡ Class.Counted → 40 ≤ length (spell e)
  long counted = total_within (spell e) (sound_spell dim e axes good) counted

  kind_before : kind_of (spell e ++ behind) ≡ kind_of (spell e)
  unfolding spell
  kind_before = refl

  byte_before : kind_byte_at (spell e ++ behind) ≡ kind_byte_at (spell e)
  unfolding spell
  byte_before = refl

  pub counted_long : is_counted (class_of (kind_of (spell e ++ behind))) ≡ true → 40 ≤ length (spell e ++ behind)
  counted_long counted =
      let forty = long (counted_class (class_of (kind_of (spell e))) (ap (λ (k : ℕ). is_counted (class_of k)) (sym kind_before) ∙ counted)) in
      omega (arith, forty, length-append (spell e) behind)

  pub kind_at-spell : kind_at (spell e ++ behind) ≡ kind_of_row (row_of e)
  kind_at-spell =
      let same : kind_at (spell e ++ behind) ≡ kind_at (spell e) =
      cc (kind_before, byte_before, total_before (class_of (kind_of (spell e))) (spell e) behind long) in
      same ∙ ap kind_of_row (row_at-spell dim e axes good)
