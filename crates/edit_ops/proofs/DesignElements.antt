-- The bytes of an element of a whole design say what its record does.
use Rattle.std.proofs.Common.{◌≡◌, ℕ, ◌+◌, ◌≤◌, ◌<◌, List, length, Option, Some, None, refl, sym, ap, ◌∙◌, arith}
use Rattle.std.specs.Prelude.{slice_get, option_map}
use Rattle.std.proofs.lemmas.Option.{slice_get_within}
use Rattle.elem_head.specs.declared.types.Head.{Head}
use Rattle.elem_head.specs.Head.{head_of}
use Rattle.dgn_drawing.specs.Element.{Element}
use Rattle.dgn_drawing.specs.Spelling.{spell, spelling, size_of}
use Rattle.dgn_drawing.specs.WellFormed.{IsWellFormed}
use Rattle.dgn_drawing.proofs.FieldPlaces.{all-sits}
use Rattle.elem_index.specs.declared.design.Design.{Design}
use Rattle.elem_index.specs.Design.{elements, IsWhole}
use Rattle.elem_index.specs.Offsets.{offset_of}
use Rattle.elem_index.proofs.Places.{axes_of, each_at, stands_at, body_is}
use Rattle.edit_ops.specs.declared.elements.element_view.ElementView.{ElementView}
use Rattle.edit_ops.specs.ElementViews.{IsElementView}
use Rattle.dgn_drawing.specs.declared.limits.TheConstants.{MOST_DESIGN}

-- the element whose spelling is given
spelled_there : (o : Option Element) (b : List ℕ) → Some b ≡ option_map spell o → (e : Element) × (o ≡ Some e) × (b ≡ spell e)
spelled_there None b is = absurd (let x = is in cc)
spelled_there (Some e) b is = (e, refl, cc)

some_same : {A : Type 0} {x y : A} → Some x ≡ Some y → x ≡ y
some_same is = cc

-- each element has four bytes
pub four_bytes : (e : Element) → 4 ≤ size_of e
unfolding spell
four_bytes e = omega arith

module _ (d : Design) (whole : IsWhole d) (n : ℕ) (b : List ℕ) (is : Some b ≡ option_map spell (slice_get (elements d) n)) where
  there : (e : Element) × (slice_get (elements d) n ≡ Some e) × (b ≡ spell e)
  there = spelled_there (slice_get (elements d) n) b is

  pub head_fits : 4 ≤ length b
  head_fits = omega (arith, four_bytes there.0, ap (length {A = ℕ}) there.2)

  good : IsWellFormed d.dim there.0
  good = each_at (IsWellFormed d.dim) (elements d) n there.0 whole.is_open.opens.each there.1

  pub inside : (place : ℕ) → place ≡ offset_of (elements d) n → place + length b ≤ MOST_DESIGN
  inside place stands_there =
      let known : n < length (elements d) = slice_get_within (elements d) n there.0 there.1 in
      let stands = stands_at (elements d) n known in
      let same : stands.0 ≡ there.0 = some_same (sym stands.1.found ∙ there.1) in
      let size : size_of stands.0 ≡ size_of there.0 = ap (λ (e : Element). size_of e) same in
      let body : length (spelling (elements d)) ≡ length d.body.items = ap (length {A = ℕ}) (body_is d whole) in
      omega (arith, stands.1.inside, size, body, whole.is_open.few, stands_there, ap (length {A = ℕ}) there.2)

  module _ (h : Head) (read : h ≡ head_of b) where
    said : h ≡ record { level = there.0.level; cbit = there.0.cbit; kind = there.0.kind; deleted = there.0.deleted; words = h.words }
    said =
        let sits = read ∙ ap head_of there.2 ∙ (all-sits d.dim there.0 (axes_of d whole) good).0.head in
        cc

    pub found_here : (f : ElementView) → f.place ≡ offset_of (elements d) n → f.kind ≡ h.kind → f.deleted ≡ h.deleted → f.bytes.now ≡ b → IsElementView d n f
    found_here f place kind deleted bytes = record {
      element = there.0;
      there = there.1;
      good = good;
      place = place;
      kind = kind ∙ ap (λ (x : Head). x.kind) said;
      deleted = deleted ∙ ap (λ (x : Head). x.deleted) said;
      bytes = bytes ∙ there.2;
    }
