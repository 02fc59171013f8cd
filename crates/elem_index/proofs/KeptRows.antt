-- What is kept of an element of a whole design says its row, but for a total.
use Rattle.std.proofs.Common.{◌≡◌, ℕ, ◌+◌, ◌-◌, ◌%◌, ◌<◌, Bool, List, [], ◌∷◌, ◌++◌, length, take, map, get_or, refl, sym, ap, ◌∙◌, arith}
use Rattle.std.proofs.Common.{true, false}
use Rattle.std.specs.Prelude.{slice_get, leb, not, Option, Some, None, option_map, IfSome, slice_index_or}
use Rattle.std.proofs.lemmas.List.{map-append, get_or_default}
use Rattle.std.proofs.lemmas.Bool.Decides.{nat_tests}
use Rattle.std.proofs.lemmas.Option.{get_or_from_slice_get, slice_get-map}
use Rattle.dgn_layout.specs.declared.types.Class.{Class}
use Rattle.dgn_layout.specs.Classes.{class_of}
use Rattle.elem_head.specs.Head.{kind_of}
use Rattle.dgn_drawing.specs.declared.row.Row.{Row}
use Rattle.dgn_drawing.specs.Element.{Element}
use Rattle.dgn_drawing.specs.Spelling.{bit, spell}
use Rattle.dgn_drawing.specs.WellFormed.{IsWellFormed}
use Rattle.dgn_drawing.specs.Rows.{row_of, row_at, total_in}
use Rattle.dgn_drawing.specs.Nesting.{is_counted}
use Rattle.dgn_drawing.proofs.Rows.{row_at-spell}
use Rattle.elem_index.specs.declared.design.Design.{Design}
use Rattle.elem_index.specs.Offsets.{offset_of}
use Rattle.elem_index.specs.Design.{elements, kind_byte, kind_bytes, IsCounted, IsWhole}
use Rattle.elem_index.proofs.KindBytes.{byte_kind}
use Rattle.elem_index.proofs.Places.{length-kept, get_or-kept, opening_of, axes_of, stands_at, Stands, each_at, take_one_more}

-- the bit C that a byte says is that of which it was made
byte_cbit : (kind : ℕ) (cbit : Bool) → kind < 128 → leb 128 (kind + bit 128 cbit) ≡ cbit
byte_cbit kind true small = grind (arith, nat_tests)
byte_cbit kind false small = grind (arith, nat_tests)

-- a class that counts no members has no total
no_total : (c : Class) (b : List ℕ) → is_counted c ≡ false → total_in c b ≡ 0
no_total Class.Silent b is = refl
no_total Class.Vertices b is = refl
no_total Class.Words b is = refl
no_total Class.Counted b is = absurd (let x = is in cc)
no_total Class.Run b is = refl
no_total Class.Floating b is = refl
no_total Class.Boxed b is = refl

-- the row of an element but for its total: what is kept of all says so much
abbrev pub bare_row : Element → Row
bare_row e = record { size = (row_of e).size; kind = (row_of e).kind; cbit = (row_of e).cbit; total = 0 }

-- a row with another total
abbrev pub with_total : Row → ℕ → Row
with_total row total = record { size = row.size; kind = row.kind; cbit = row.cbit; total = total }

same_but_total : (row : Row) (size kind : ℕ) (cbit : Bool) → row.size ≡ size → row.kind ≡ kind → row.cbit ≡ cbit
    → with_total row 0 ≡ record { size = size; kind = kind; cbit = cbit; total = 0 }
same_but_total row size kind cbit one two three =
    let none : Row = record { size = size; kind = kind; cbit = cbit; total = 0 } in
    let e : with_total row 0 ≡ none = cc in e

-- what is said of an element that is there
of_said : {R : Type 0} (said : Element → R) (row : R) (r : Option Element) → option_map said r ≡ Some row → (e : Element) × (r ≡ Some e) × (row ≡ said e)
of_said said row None is = absurd (let f = is in cc)
of_said said row (Some e) is = (e, refl, cc)

-- the row of element n of a whole design
module _ (d : Design) (whole : IsWhole d) (n : ℕ) (known : n < length (elements d)) where
  pub here : (e : Element) × Stands (elements d) n e
  here = stands_at (elements d) n known

  abbrev pub row : Row
  row = row_of here.0

  pub found : option_map row_of (slice_get (elements d) n) ≡ Some row
  found = ap (option_map row_of) here.1.found

  read : row_at (spell here.0) ≡ row
  read = row_at-spell d.dim here.0 (axes_of d whole) (each_at (IsWellFormed d.dim) (elements d) n here.0 (opening_of d whole).each here.1.found)

  -- what is kept of it
  pub kept_place : (at : ℕ) → at ≡ slice_index_or d.kept.items n at → at ≡ offset_of (elements d) n
  kept_place at is = is ∙ get_or_default d.kept.items n at 0 (omega (arith, length-kept d whole)) ∙ get_or-kept d whole n known

  -- where its parts are read from what is kept, as its offset, that of the next, and its byte
  module _ (byte : ℕ) (kept : byte ≡ get_or (kind_bytes (elements d)) n 0) where
    byte_is : byte ≡ kind_byte row
    byte_is =
        let bytes : slice_get (kind_bytes (elements d)) n ≡ Some (kind_byte row) =
        slice_get-map kind_byte (map row_of (elements d)) n ∙ ap (option_map kind_byte) (slice_get-map row_of (elements d) n ∙ found) in
        kept ∙ get_or_from_slice_get (kind_bytes (elements d)) n (kind_byte row) 0 bytes

    small : row.kind < 128
    small = let kind = ap (λ (r : Row). r.kind) read in omega arith

    kind_is : row.kind ≡ byte % 128
    kind_is = sym (byte_kind row.kind row.cbit small) ∙ ap (λ (k : ℕ). k % 128) (sym byte_is)

    cbit_is : row.cbit ≡ leb 128 byte
    cbit_is = sym (byte_cbit row.kind row.cbit small) ∙ ap (leb 128) (sym byte_is)

    -- its row, but for the total
    pub bare_row_is : (begin end : ℕ) → begin ≡ offset_of (elements d) n → end ≡ offset_of (elements d) (n + 1)
        → option_map bare_row (slice_get (elements d) n) ≡ Some (record { size = end - begin; kind = byte % 128; cbit = leb 128 byte; total = 0 })
    bare_row_is begin end begins ends =
        let size : row.size ≡ end - begin = omega (arith, here.1.next, begins, ends) in
        ap (option_map bare_row) here.1.found ∙ ap Some (same_but_total row (end - begin) (byte % 128) (leb 128 byte) size kind_is cbit_is)

  -- so it is by the kept bytes of all
  pub bare_kept : (bytes : List ℕ) → bytes ≡ kind_bytes (elements d) → (begin : ℕ) → begin ≡ slice_index_or d.kept.items n begin
      → (end : ℕ) → end ≡ offset_of (elements d) (n + 1)
      → option_map bare_row (slice_get (elements d) n)
      ≡ Some (record { size = end - begin; kind = get_or bytes n 0 % 128; cbit = leb 128 (get_or bytes n 0); total = 0 })
  bare_kept bytes are begin begins end ends =
      bare_row_is (get_or bytes n 0) (ap (λ (l : List ℕ). get_or l n 0) are) begin end (kept_place begin begins) ends

-- the row of element n by what it is but for the total
module _ (d : Design) (whole : IsWhole d) (n : ℕ) (row : Row) (is : option_map bare_row (slice_get (elements d) n) ≡ Some row) where
  there : (e : Element) × (slice_get (elements d) n ≡ Some e) × (row ≡ bare_row e)
  there = of_said bare_row row (slice_get (elements d) n) is

  spelled : row_at (spell there.0) ≡ row_of there.0
  spelled = row_at-spell d.dim there.0 (axes_of d whole) (each_at (IsWellFormed d.dim) (elements d) n there.0 (opening_of d whole).each there.1)

  -- a type that counts no members has none
  pub uncounted : is_counted (class_of row.kind) ≡ false → option_map row_of (slice_get (elements d) n) ≡ Some row
  uncounted not =
      let kind : kind_of (spell there.0) ≡ row.kind = ap (λ (r : Row). r.kind) spelled ∙ sym (ap (λ (r : Row). r.kind) there.2) in
      let none : (row_of there.0).total ≡ 0 = sym (ap (λ (r : Row). r.total) spelled)
      ∙ no_total (class_of (kind_of (spell there.0))) (spell there.0) (ap (λ (k : ℕ). is_counted (class_of k)) kind ∙ not) in
      ap (option_map row_of) there.1 ∙ ap (λ (total : ℕ). Some (with_total (row_of there.0) total)) none ∙ ap Some (sym there.2)

  -- and that of any other is read
  pub counted : (total : ℕ) → option_map (λ (e : Element). (row_of e).total) (slice_get (elements d) n) ≡ Some total
      → option_map row_of (slice_get (elements d) n) ≡ Some (with_total row total)
  counted total said =
      let read : Some (row_of there.0).total ≡ Some total = sym (ap (option_map (λ (x : Element). (row_of x).total)) there.1) ∙ said in
      let same : (row_of there.0).total ≡ total = cc in
      ap (option_map row_of) there.1 ∙ ap (λ (t : ℕ). Some (with_total (row_of there.0) t)) same ∙ ap (λ (r : Row). Some (with_total r total)) (sym there.2)

-- where what is said but for the total counts members, so does the element there
pub counted_there : (es : List Element) (n : ℕ) (row : Row) → option_map bare_row (slice_get es n) ≡ Some row
    → is_counted (class_of row.kind) ≡ true → IfSome (slice_get es n) IsCounted
counted_there es n row is counts =
    let this = of_said bare_row row (slice_get es n) is in
    rw this.1 (rw this.2 at counts)

-- what is said there is one more of them
module _ (said : Element → Row) (es : List Element) (n : ℕ) (row : Row) (is : option_map said (slice_get es n) ≡ Some row) where
  pub said_more : map said (take (n + 1) es) ≡ map said (take n es) ++ row ∷ []
  said_more =
      let this = of_said said row (slice_get es n) is in
      rw (take_one_more es n this.0 this.1) (cc (map-append said (take n es) (this.0 ∷ []), this.2))
