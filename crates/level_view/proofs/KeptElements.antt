-- The rows of the elements of a design, by what it keeps of each.
use Rattle.std.proofs.Common.{◌≡◌, ℕ, ◌+◌, ◌-◌, ◌%◌, ◌<◌, Bool, true, false, cond, List, [], ◌∷◌, length, drop, map, get_or, refl, sym, ap, ◌∙◌, subst, arith}
use Rattle.std.proofs.Common.{length-append}
use Rattle.std.specs.Prelude.{leb}
use Rattle.std.specs.List.{AllByRecursion}
use Rattle.std.proofs.lemmas.Bool.Decides.{nat_tests}
use Rattle.dgn_layout.specs.declared.types.Class.{Class}
use Rattle.dgn_layout.specs.Classes.{class_of}
use Rattle.elem_head.specs.Head.{kind_of}
use Rattle.dgn_drawing.specs.declared.row.Row.{Row}
use Rattle.dgn_drawing.specs.Element.{Element}
use Rattle.dgn_drawing.specs.Spelling.{bit, size_of, spell, spelling}
use Rattle.dgn_drawing.specs.WellFormed.{IsDimension, IsWellFormed}
use Rattle.dgn_drawing.specs.Opening.{offsets_from}
use Rattle.dgn_drawing.specs.Nesting.{is_counted}
use Rattle.dgn_drawing.specs.Rows.{row_of, total_in}
use Rattle.dgn_drawing.proofs.Rows.{row_at-spell}
use Rattle.elem_index.specs.declared.design.Design.{Design}
use Rattle.elem_index.specs.Offsets.{offsets_of}
use Rattle.elem_index.specs.Design.{elements, kind_byte, kind_bytes, totals_in, totals_of, IsWhole}
use Rattle.elem_index.proofs.Places.{axes_of, body_is, few_elements, length-offsets}
use Rattle.elem_index.proofs.KindBytes.{byte_kind, length-kind_bytes}
use Rattle.nest_tree.specs.Shapes.{IsRow}
use Rattle.nest_tree.specs.Kept.{next_place, kept_row, kept_rows, counted_in, AreKept}
use Rattle.level_view.proofs.Rows.{rows_each}

byte_cbit : (kind : ℕ) (cbit : Bool) → kind < 128 → leb 128 (kind + bit 128 cbit) ≡ cbit
byte_cbit kind true small = grind (arith, nat_tests)
byte_cbit kind false small = grind (arith, nat_tests)

-- an element whose class isn't counted has no total
no_total : (c : Class) (b : List ℕ) → is_counted c ≡ false → total_in c b ≡ 0
no_total Class.Silent b none = refl
no_total Class.Vertices b none = refl
no_total Class.Words b none = refl
no_total Class.Counted b none = absurd (let e = none in cc)
no_total Class.Run b none = refl
no_total Class.Floating b none = refl
no_total Class.Boxed b none = refl

-- of the totals the first is that of the first row, if it counts its members, and the others are those of the rows behind it
first_total : (b : Bool) (t : ℕ) (ts : List ℕ) → (b ≡ false → t ≡ 0) → cond b (get_or (cond b (t ∷ ts) ts) 0 0) 0 ≡ t
first_total true t ts zero = refl
first_total false t ts zero = sym (zero refl)

other_totals : (b : Bool) (t : ℕ) (ts : List ℕ) → cond b (drop 1 (cond b (t ∷ ts) ts)) (cond b (t ∷ ts) ts) ≡ ts
other_totals true t ts = refl
other_totals false t ts = refl

abbrev sizes : List Element → ℕ
sizes [] = 0
sizes (e ∷ es) = size_of e + sizes es

next_is : (es : List Element) (p : ℕ) → next_place (offsets_from p (map size_of es)) (p + sizes es) ≡ p
next_is [] p = omega arith
next_is (e ∷ es) p = refl

module _ (dim : ℕ) (axes : IsDimension dim) where
  uncounted : (e : Element) → IsWellFormed dim e → is_counted (class_of e.kind) ≡ false → (row_of e).total ≡ 0
  uncounted e good none =
      let row = row_at-spell dim e axes good in
      sym (ap (λ (r : Row). r.total) row)
      ∙ no_total (class_of (kind_of (spell e))) (spell e) (ap (λ (r : Row). is_counted (class_of r.kind)) row ∙ none)

  one_row : (e : Element) → IsWellFormed dim e → (p next : ℕ) (ts : List ℕ) → next ≡ p + size_of e
      → kept_row p next (kind_byte (row_of e)) (cond (is_counted (class_of (kind_byte (row_of e) % 128)))
      (get_or (cond (is_counted (class_of e.kind)) ((row_of e).total ∷ ts) ts) 0 0) 0) ≡ row_of e
  one_row e good p next ts is =
      let kind = byte_kind e.kind e.cbit good.kind in
      let size : next - p ≡ size_of e = omega arith in
      ap (λ (k : ℕ). kept_row p next (kind_byte (row_of e)) (cond (is_counted (class_of k))
      (get_or (cond (is_counted (class_of e.kind)) ((row_of e).total ∷ ts) ts) 0 0) 0)) kind
      ∙ ap (kept_row p next (kind_byte (row_of e))) (first_total (is_counted (class_of e.kind)) (row_of e).total ts (uncounted e good))
      ∙ ap (λ (n : ℕ). record { size = n; kind = kind_byte (row_of e) % 128; cbit = leb 128 (kind_byte (row_of e)); total = (row_of e).total }) size
      ∙ ap (λ (k : ℕ). record { size = size_of e; kind = k; cbit = leb 128 (kind_byte (row_of e)); total = (row_of e).total }) kind
      ∙ ap (λ (b : Bool). record { size = size_of e; kind = e.kind; cbit = b; total = (row_of e).total }) (byte_cbit e.kind e.cbit good.kind)

  kept_from : (es : List Element) → AllByRecursion (IsWellFormed dim) es → (p end : ℕ) → end ≡ p + sizes es
      → kept_rows (offsets_from p (map size_of es)) (kind_bytes es) (totals_of es) end ≡ map row_of es
  kept_from [] each p end is = refl
  kept_from (e ∷ es) each p end is =
      let last : end ≡ p + size_of e + sizes es = omega arith in
      let next = ap (next_place (offsets_from (p + size_of e) (map size_of es))) last ∙ next_is es (p + size_of e) in
      let kind = byte_kind e.kind e.cbit each.0.kind in
      let ts : List ℕ = totals_of es in
      let left : cond (is_counted (class_of (kind_byte (row_of e) % 128))) (drop 1 (totals_of (e ∷ es))) (totals_of (e ∷ es)) ≡ totals_of es =
      ap (λ (k : ℕ). cond (is_counted (class_of k)) (drop 1 (totals_of (e ∷ es))) (totals_of (e ∷ es))) kind
      ∙ other_totals (is_counted (class_of e.kind)) (row_of e).total (totals_of es) in
      ap (λ (l : List ℕ). kept_row p (next_place (offsets_from (p + size_of e) (map size_of es)) end) (kind_byte (row_of e))
      (cond (is_counted (class_of (kind_byte (row_of e) % 128))) (get_or (totals_of (e ∷ es)) 0 0) 0)
      ∷ kept_rows (offsets_from (p + size_of e) (map size_of es)) (kind_bytes es) l end) left
      ∙ ap (λ (r : Row). r ∷ kept_rows (offsets_from (p + size_of e) (map size_of es)) (kind_bytes es) (totals_of es) end)
      (one_row e each.0 p (next_place (offsets_from (p + size_of e) (map size_of es)) end) (totals_of es) next)
      ∙ ap (λ (l : List Row). row_of e ∷ l) (kept_from es each.1 (p + size_of e) end last)

length-spelling : (es : List Element) → length (spelling es) ≡ sizes es
length-spelling [] = refl
length-spelling (e ∷ es) = omega (arith, length-append (spell e) (spelling es), length-spelling es)

one_more : (b : Bool) (t : ℕ) (ts : List ℕ) → length (cond b (t ∷ ts) ts) ≡ cond b 1 0 + length ts
one_more true t ts = omega arith
one_more false t ts = omega arith

length-totals : (rows : List Row) → length (totals_in rows) ≡ counted_in rows
length-totals [] = refl
length-totals (r ∷ rows) =
    let more = one_more (is_counted (class_of r.kind)) r.total (totals_in rows) in
    omega (arith, length-totals rows)

-- what a design keeps says the rows of its elements
module _ (d : Design) (whole : IsWhole d) (places kinds totals : List ℕ) (end : ℕ) (places_are : places ≡ offsets_of (elements d))
    (kinds_are : kinds ≡ kind_bytes (elements d)) (totals_are : totals ≡ totals_of (elements d)) (ends : end ≡ length d.body.items) where
  pub kept_all : kept_rows places kinds totals end ≡ map row_of (elements d)
  kept_all =
      ap (λ (l : List ℕ). kept_rows l kinds totals end) places_are
      ∙ ap (λ (l : List ℕ). kept_rows (offsets_of (elements d)) l totals end) kinds_are
      ∙ ap (λ (l : List ℕ). kept_rows (offsets_of (elements d)) (kind_bytes (elements d)) l end) totals_are
      ∙ kept_from d.dim (axes_of d whole) (elements d) whole.is_open.opens.each 0 end
      (omega (arith, length-spelling (elements d), ap (length {A = ℕ}) (body_is d whole)))

  pub are_kept : AreKept places kinds totals end
  are_kept =
      let long = ap (length {A = ℕ}) places_are ∙ length-offsets (elements d) in
      record {
        few = omega (arith, few_elements d whole);
        each = ap (length {A = ℕ}) kinds_are ∙ length-kind_bytes (elements d) ∙ sym long;
        counted = ap (length {A = ℕ}) totals_are ∙ length-totals (map row_of (elements d)) ∙ ap counted_in (sym kept_all);
        rows = subst (AllByRecursion IsRow) (sym kept_all) (rows_each d whole (map row_of (elements d)) refl);
      }
