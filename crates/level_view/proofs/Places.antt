-- Where an element stands, by what is asked of the drawing and of its nesting.
use Rattle.std.proofs.Common.{◌≡◌, ℕ, suc, ◌+◌, ◌-◌, ◌≤◌, List, refl, sym, ap, ◌∙◌, subst, arith}
use Rattle.std.specs.Prelude.{Option, Some, None, slice_get, option_map}
use Rattle.dgn_drawing.specs.Element.{Element}
use Rattle.dgn_drawing.specs.Spelling.{spell}
use Rattle.dgn_drawing.specs.WellFormed.{IsWellFormed}
use Rattle.dgn_drawing.specs.Faults.{HasNoFaultIn}
use Rattle.dgn_drawing.specs.Reading.{element_at}
use Rattle.dgn_drawing.specs.Rows.{row_of}
use Rattle.dgn_drawing.specs.Numbering.{Mark, mark_of, span_of, depth_of, knot_of}
use Rattle.dgn_drawing.proofs.RecordsRead.{element_at-spell}
use Rattle.elem_index.specs.declared.design.Design.{Design}
use Rattle.elem_index.specs.Design.{elements, IsWhole}
use Rattle.elem_index.proofs.Places.{axes_of, each_at, sound_in}
use Rattle.nest_tree.specs.declared.knot.Knot as code
use Rattle.level_view.specs.declared.place.Place.{Place}
use Rattle.level_view.specs.Back.{with_element, with_marked, read_back, IsPlace}
use Rattle.dgn_drawing.specs.declared.types.item.Item.{Item}
use Rattle.dgn_drawing.specs.declared.mask.Mask.{Mask}
use Rattle.nest_tree.specs.Shapes.{code_knot}

-- what is told of an element's mark is so
pub mark_part : {A : Type 0} (f : Mark → A) (m : Mark) (o : Option Mark) (x : A) → Some x ≡ option_map f o → o ≡ Some m → x ≡ f m
mark_part {A} f m o x is same = let e : Some x ≡ Some (f m) = is ∙ ap (option_map f) same in cc

pub some_mark : {A : Type 0} (f : Mark → A) (o : Option Mark) (x : A) → Some x ≡ option_map f o → (m : Mark) × (o ≡ Some m)
some_mark f None x is = absurd (let e = is in cc)
some_mark f (Some m) x is = (m, refl)

taken : (r : Option Element) (b : List ℕ) → Some b ≡ option_map spell r → (e : Element) × (r ≡ Some e) × (b ≡ spell e)
taken None b is = absurd (let f = is in cc)
taken (Some e) b is = (e, refl, cc)

-- its bytes are sound, and the element is read from them
module _ (d : Design) (whole : IsWhole d) (n : ℕ) (b : List ℕ) (is : Some b ≡ option_map spell (slice_get (elements d) n)) where
  this : (e : Element) × (slice_get (elements d) n ≡ Some e) × (b ≡ spell e)
  this = taken (slice_get (elements d) n) b is

  good : IsWellFormed d.dim this.0
  good = each_at (IsWellFormed d.dim) (elements d) n this.0 whole.is_open.opens.each this.1

  pub sound_here : HasNoFaultIn d.dim b
  sound_here = subst (HasNoFaultIn d.dim) (sym this.2) (sound_in d.dim this.0 (axes_of d whole) good)

  pub element_here : slice_get (elements d) n ≡ Some (element_at d.dim b)
  element_here = this.1 ∙ ap Some (sym (ap (element_at d.dim) this.2 ∙ element_at-spell d.dim this.0 (axes_of d whole) good))

same_some : {A : Type 0} (x y : A) → Some x ≡ Some y → x ≡ y
same_some x y is = cc

-- an element's mark, by what is told of it
module _ (es : List Element) (n number end depth : ℕ) (knot : code.Knot)
    (spanned : ◌≡◌ {A = Option (ℕ × ℕ)} (Some (number, end)) (span_of row_of es n))
    (deep : Some depth ≡ depth_of row_of es n) (known : Some knot ≡ option_map code_knot (knot_of row_of es n)) where
  has_mark : (m : Mark) × (mark_of row_of es n ≡ Some m)
  has_mark = some_mark (λ (m : Mark). (n, m.end)) (mark_of row_of es n) (number, end) spanned

  pub place_mark : Mark
  place_mark = has_mark.0

  pub place_marked : mark_of row_of es n ≡ Some place_mark
  unfolding place_mark
  place_marked = has_mark.1

  pair_here : ◌≡◌ {A = ℕ × ℕ} (number, end) (n, place_mark.end)
  pair_here = mark_part (λ (m : Mark). (n, m.end)) place_mark (mark_of row_of es n) (number, end) spanned place_marked

  pub place_number : number ≡ n
  place_number = ap (λ (x : ℕ × ℕ). x.0) pair_here

  pub place_end : end ≡ place_mark.end
  place_end = ap (λ (x : ℕ × ℕ). x.1) pair_here

  pub place_depth : depth ≡ place_mark.depth
  place_depth = mark_part (λ (m : Mark). m.depth) place_mark (mark_of row_of es n) depth deep place_marked

  pub place_knot : knot ≡ code_knot place_mark.knot
  place_knot = same_some knot (code_knot place_mark.knot)
      (known ∙ ap (λ (o : Option Mark). option_map code_knot (option_map (λ (m : Mark). m.knot) o)) place_marked)

-- an element at its place, before what is shown behind it
module _ (dim : ℕ) (mask : Mask) (es : List Element) (n : ℕ) (p : Place) (is : IsPlace dim es n p) where
  place_step : (found : List Item)
      → with_element dim mask p.knot p.number p.depth p.end (element_at dim p.bytes.now) found
      ≡ with_marked dim mask n (mark_of row_of es n) (slice_get es n) found
  place_step found =
      ap (λ (k : code.Knot). with_element dim mask k p.number p.depth p.end (element_at dim p.bytes.now) found) is.knot
      ∙ ap (λ (k : ℕ). with_element dim mask (code_knot is.mark.knot) k p.depth p.end (element_at dim p.bytes.now) found) is.number
      ∙ ap (λ (k : ℕ). with_element dim mask (code_knot is.mark.knot) n k p.end (element_at dim p.bytes.now) found) is.depth
      ∙ ap (λ (k : ℕ). with_element dim mask (code_knot is.mark.knot) n is.mark.depth k (element_at dim p.bytes.now) found) is.end
      ∙ ap (λ (o : Option Element). with_marked dim mask n (Some is.mark) o found) (sym is.element)
      ∙ ap (λ (o : Option Mark). with_marked dim mask n o (slice_get es n) found) (sym is.marked)

  pub back_step : (next end : ℕ) (found : List Item) → next ≡ n + 1 → next ≤ end → found ≡ read_back dim mask es next (end - next)
      → with_element dim mask p.knot p.number p.depth p.end (element_at dim p.bytes.now) found ≡ read_back dim mask es n (end - n)
  back_step next end found follows within so_far =
      let one : end - n ≡ suc (end - next) = omega arith in
      place_step found
      ∙ ap (with_marked dim mask n (mark_of row_of es n) (slice_get es n)) (so_far ∙ ap (λ (k : ℕ). read_back dim mask es k (end - next)) follows)
      ∙ ap (read_back dim mask es n) (sym one)
