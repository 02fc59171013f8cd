-- Where a body ends: by its form, of a header, of an element without a fault and of a silent one.
use Rattle.std.proofs.Common.{◌≡◌, ℕ, ◌≤◌, List, length, ap, sym, ◌∙◌, refl, Bool, true, false, cond, ◌⊎◌, inl, inr, arith}
use Rattle.std.specs.Prelude.{◌==◌}
use Rattle.std.specs.declared.result.Result.TheVariants.{Ok, Err}
use Rattle.std.proofs.lemmas.Bool.{cases_Bool, ltb-false}
use Rattle.std.proofs.lemmas.Bool.Decides.{nat_tests}
use Rattle.dgn_layout.specs.declared.types.Class.{Class}
use Rattle.dgn_layout.specs.Classes.{class_of, is_silent}
use Rattle.dgn_drawing.specs.declared.body_fault.BodyFault.{BodyFault}
use Rattle.dgn_drawing.specs.WellFormed.{IsDimension}
use Rattle.dgn_drawing.specs.Faults.{is_short, is_shown, element_fault, HasNoFaultIn, HasNoFault}
use Rattle.elem_head.specs.Head.{kind_of}
use Rattle.body_text.specs.Texts.{text_end, node_end}
use Rattle.group_head.specs.Headers.{cell_end}
use Rattle.dgn_drawing.specs.declared.form.Form.{Form}
use Rattle.dgn_drawing.specs.Forms.{form_in, form_of}
use Rattle.dgn_drawing.specs.Reading.{end_at, form_at}
use Rattle.dgn_drawing.proofs.Places.{in_both}
use Rattle.dgn_drawing.proofs.FormEnds.{end_in, end_by_form, end_of_form}

module _ (form : Form) (dim : ℕ) (b : List ℕ) (axes : IsDimension dim) (these : form ≡ form_at b) where
  pub end-text : form ≡ Form.Text → end_at dim b ≡ text_end dim b
  unfolding end_in
  end-text is = end_of_form b axes Form.Text (sym these ∙ is)

  pub end-node : form ≡ Form.Node → end_at dim b ≡ node_end dim
  unfolding end_in
  end-node is = end_of_form b axes Form.Node (sym these ∙ is)

  pub end-cell : form ≡ Form.Cell → end_at dim b ≡ cell_end dim
  unfolding end_in
  end-cell is = end_of_form b axes Form.Cell (sym these ∙ is)

-- a header's body holds its total
abbrev pub counted_form : Form → Bool
counted_form Form.Node = true
counted_form Form.Cell = true
counted_form Form.Header = true
counted_form other = false

pub counted_in : (kind : ℕ) → counted_form (form_in Class.Counted kind) ≡ true
counted_in kind = each (kind == 2) (kind == 7)
  where
    each : (s t : Bool) → counted_form (cond s Form.Cell (cond t Form.Node Form.Header)) ≡ true
    each true t = refl
    each false true = refl
    each false false = refl

header_end : (f : Form) (dim : ℕ) (b : List ℕ) → IsDimension dim → counted_form f ≡ true → 40 ≤ end_in f dim b
unfolding end_in
header_end Form.Line dim b axes counted = absurd (cc)
header_end Form.Points dim b axes counted = absurd (cc)
header_end Form.Text dim b axes counted = absurd (cc)
header_end Form.Node dim b axes counted = in_both (λ (d : ℕ). 40 ≤ node_end d) (omega arith) (omega arith) axes
header_end Form.Cell dim b axes counted = in_both (λ (d : ℕ). 40 ≤ cell_end d) (omega arith) (omega arith) axes
header_end Form.Header dim b axes counted = omega arith
header_end Form.Plain dim b axes counted = absurd (cc)
header_end Form.Silent dim b axes counted = absurd (cc)

pub counted_form_of : (kind : ℕ) → class_of kind ≡ Class.Counted → counted_form (form_of kind) ≡ true
unfolding form_of
counted_form_of kind is = ap (λ (k : Class). counted_form (form_in k kind)) is ∙ counted_in kind

-- an element without a fault ends behind its body
pub sound_end : (dim : ℕ) (b : List ℕ) → HasNoFaultIn dim b → end_at dim b ≤ length b
sound_end dim b sound = elim (cases_Bool (is_short dim b)) [
  | inl short ↦ absurd (let e = sound.fault in let f : element_fault dim b ≡ Err BodyFault.Short = rw short refl in cc)
  | inr long ↦ ltb-false (length b) (end_at dim b) long
]

pub total_within : (b : List ℕ) → HasNoFault b → class_of (kind_of b) ≡ Class.Counted → 40 ≤ length b
total_within b (inl sound) is = let e = sound_end 2 b sound in let h = header_end (form_at b) 2 b (inl refl) (counted_form_of (kind_of b) is) in
    let same = end_by_form b {dim = 2} (inl refl) in omega arith
total_within b (inr sound) is = let e = sound_end 3 b sound in let h = header_end (form_at b) 3 b (inr refl) (counted_form_of (kind_of b) is) in
    let same = end_by_form b {dim = 3} (inr refl) in omega arith

-- an element is silent or has a display part
pub shown_cases : (f : Form) → (is_shown f ≡ true) ⊎ (f ≡ Form.Silent)
shown_cases Form.Line = inl refl
shown_cases Form.Points = inl refl
shown_cases Form.Text = inl refl
shown_cases Form.Node = inl refl
shown_cases Form.Cell = inl refl
shown_cases Form.Header = inl refl
shown_cases Form.Plain = inl refl
shown_cases Form.Silent = inr refl

pub shown_from : (f : Form) → (f ≡ Form.Silent → ⊥) → is_shown f ≡ true
shown_from f isnt = elim (shown_cases f) [ inl shown ↦ shown | inr silent ↦ absurd (isnt silent) ]

-- an element of which nothing is read has no fault
silent_form : (b : List ℕ) → class_of (kind_of b) ≡ Class.Silent → form_at b ≡ Form.Silent
unfolding form_of
silent_form b silent = ap (λ (c : Class). form_in c (kind_of b)) silent

pub silent_sound : (dim : ℕ) (b : List ℕ) → class_of (kind_of b) ≡ Class.Silent → 4 ≤ length b → element_fault dim b ≡ Ok tt
silent_sound dim b silent long =
    let end : end_at dim b ≡ 4 = rw silent (omega arith) in
    let short : is_short dim b ≡ false = grind (arith, nat_tests) in
    let shown : is_shown (form_at b) ≡ false = ap is_shown (silent_form b silent) in
    rw (short, shown) refl

-- a class that isn't silent has a display part, and one that is is the silent one
form_shown : (c : Class) (kind : ℕ) → is_silent c ≡ false → is_shown (form_in c kind) ≡ true
form_shown Class.Vertices kind read = elim (cases_Bool (kind == 3)) [ inl e ↦ rw e refl | inr e ↦ rw e refl ]
form_shown Class.Words kind read = refl
form_shown Class.Counted kind read =
    elim (cases_Bool (kind == 2)) [ inl e ↦ rw e refl | inr e ↦ elim (cases_Bool (kind == 7)) [ inl f ↦ rw (e, f) refl | inr f ↦ rw (e, f) refl ] ]
form_shown Class.Run kind read = refl
form_shown Class.Floating kind read = refl
form_shown Class.Boxed kind read = refl
form_shown Class.Silent kind read = absurd (cc)

pub read_shown : (b : List ℕ) → is_silent (class_of (kind_of b)) ≡ false → is_shown (form_at b) ≡ true
unfolding form_of
read_shown b read = form_shown (class_of (kind_of b)) (kind_of b) read

pub silent_class : (c : Class) → is_silent c ≡ true → c ≡ Class.Silent
silent_class Class.Vertices e = absurd (cc)
silent_class Class.Words e = absurd (cc)
silent_class Class.Counted e = absurd (cc)
silent_class Class.Run e = absurd (cc)
silent_class Class.Floating e = absurd (cc)
silent_class Class.Boxed e = absurd (cc)
silent_class Class.Silent e = refl
