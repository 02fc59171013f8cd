-- Elements of which more is read than nothing.
use Rattle.std.proofs.Common.{◌≡◌, ℕ, ◌+◌, ◌≤◌, ◌==◌, List, [], ◌++◌, length, Bool, true, false, cond, refl, sym, ap, ◌∙◌, subst, arith, length-append}
use Rattle.dgn_layout.specs.declared.types.Class.{Class}
use Rattle.dgn_layout.specs.Classes.{class_of, is_silent}
use Rattle.dgn_drawing.specs.Element.{Display, Parts, Line, Points, Text, Node, Cell, Header, Plain, Body, Silent, Shown, Element, form_of_body, form_of_parts}
use Rattle.dgn_drawing.specs.Forms.{form_of, form_in}
use Rattle.dgn_drawing.specs.Spelling.{spell, size_of, body_bytes, display_bytes, parts_bytes}
use Rattle.dgn_drawing.specs.WellFormed.{IsDisplay, HasBody, IsWellFormed}
use Rattle.dgn_drawing.proofs.Displays.{length-display}

-- the display part is in the body
header_within : (d : Display) (parts : Parts) (rest : List ℕ) → IsDisplay d → 32 ≤ length (body_bytes (Shown d parts rest))
unfolding body_bytes
header_within d parts rest good = omega (arith, length-display d good, length-append (display_bytes d) (parts_bytes parts ++ rest))

-- the body stands behind four bytes
pub size-body : (e : Element) → size_of e ≡ 4 + length (body_bytes e.body)
unfolding spell
size-body e = omega arith

-- the element has a shown body
pub record IsShown (e : Element) : Type 0 where
  pub display : Display
  pub parts : Parts
  pub rest : List ℕ
  pub body : e.body ≡ Shown display parts rest

-- the body of a class that isn't silent is shown
shown_body : (class : Class) (kind : ℕ) (b : Body) → is_silent class ≡ false → form_in class kind ≡ form_of_body b → (d : Display) × (parts : Parts)
    × (rest : List ℕ) × (b ≡ Shown d parts rest)
shown_body class kind (Shown d parts rest) loud is = (d, parts, rest, refl)
shown_body Class.Silent kind (Silent rest) loud is = absurd (let l = loud in cc)
shown_body Class.Vertices kind (Silent rest) loud is = absurd (not_silent (kind == 3) is)
  where
    not_silent : (c : Bool) → cond c (form_of_parts (Line [])) (form_of_parts (Points [])) ≡ form_of_body (Silent rest) → ⊥
    not_silent true e = cc
    not_silent false e = cc
shown_body Class.Words kind (Silent rest) loud is = absurd (let l = is in cc)
shown_body Class.Counted kind (Silent rest) loud is = absurd (not_silent (kind == 2) (kind == 7) is)
  where
    not_silent : (c d : Bool)
        → cond c (form_of_parts (Cell 0 [] [] [])) (cond d (form_of_parts (Node 0 [] [])) (form_of_parts (Header 0 0))) ≡ form_of_body (Silent rest) → ⊥
    not_silent true d e = cc
    not_silent false true e = cc
    not_silent false false e = cc
shown_body Class.Run kind (Silent rest) loud is = absurd (let l = is in cc)
shown_body Class.Floating kind (Silent rest) loud is = absurd (let l = is in cc)
shown_body Class.Boxed kind (Silent rest) loud is = absurd (let l = is in cc)

-- an element of which more is read than nothing has a shown body
pub is_shown : (dim : ℕ) (e : Element) → IsWellFormed dim e → is_silent (class_of e.kind) ≡ false → IsShown e
unfolding form_of
is_shown dim e good loud =
    let four = shown_body (class_of e.kind) e.kind e.body loud good.form in
    record { display = four.0; parts = four.1; rest = four.2; body = four.3 }

-- a shown element has a display header
pub shown_long : (dim : ℕ) (e : Element) → IsWellFormed dim e → IsShown e → 36 ≤ size_of e
shown_long dim e good shown = by_body e.body shown.body good.parts refl
  where
    by_body : (b : Body) → b ≡ Shown shown.display shown.parts shown.rest → HasBody dim b → b ≡ e.body → 36 ≤ size_of e
    by_body b is parts same =
        let display = (subst (HasBody dim) is parts).0 in
        let bytes : length (body_bytes e.body) ≡ length (body_bytes (Shown shown.display shown.parts shown.rest)) =
        ap (λ (x : Body). length (body_bytes x)) (sym same ∙ is) in
        let header : 32 ≤ length (body_bytes (Shown shown.display shown.parts shown.rest)) = header_within shown.display shown.parts shown.rest display in
        omega (arith, size-body e, bytes, header)

-- what is shown has another form than what isn't
pub not_silent_form : (parts : Parts) → form_of_parts parts ≡ form_of_body (Silent []) → ⊥
not_silent_form (Line points) is = cc
not_silent_form (Points points) is = cc
not_silent_form (Text run origin spare chars) is = cc
not_silent_form (Node total run origin) is = cc
not_silent_form (Cell total name run origin) is = cc
not_silent_form (Header total number) is = cc
not_silent_form Plain is = cc

-- a silent body is that of a silent class
pub silent_class : (dim : ℕ) (e : Element) → IsWellFormed dim e → form_of_body e.body ≡ form_of_body (Silent []) → is_silent (class_of e.kind) ≡ true
silent_class dim e good silent = by_class (is_silent (class_of e.kind)) refl
  where
    by_class : (s : Bool) → is_silent (class_of e.kind) ≡ s → is_silent (class_of e.kind) ≡ true
    by_class true is = is
    by_class false is =
        let shown = is_shown dim e good is in
        absurd (not_silent_form shown.parts (ap form_of_body (sym shown.body) ∙ silent))
