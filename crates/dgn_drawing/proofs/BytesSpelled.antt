-- Bytes of one whole element without a fault spell the record that is read there, which is well formed.
use Rattle.std.proofs.Common.{◌≡◌, ℕ, ◌+◌, ◌-◌, ◌/◌, ◌%◌, ◌<◌, ◌≤◌, List, [], ◌∷◌, length, drop, get_or, refl, sym, ap, ◌∙◌, subst, arith, Bool, true}
use Rattle.std.proofs.Common.{false, length-drop}
use Rattle.std.proofs.lemmas.List.Elements.{All-drop}
use Rattle.std.proofs.lemmas.Bool.{ltb-false, or_parts}
use Rattle.std.proofs.lemmas.Bool.Decides.{nat_tests}
use Rattle.std.specs.Prelude.{◌==◌, nat_lt, cond, ◌&&◌, ◌||◌}
use Rattle.dgn_words.specs.Numbers.{word_at, word_bytes}
use Rattle.elem_head.specs.Head.{kind_of, has_attributes, attributes_start}
use Rattle.body_text.specs.Texts.{text_end, node_end}
use Rattle.group_head.specs.Headers.{cell_end}
use Rattle.dgn_drawing.specs.declared.form.Form.{Form}
use Rattle.dgn_drawing.specs.Element.{Body, Shown, Element, form_of_body, rest_of}
use Rattle.dgn_drawing.specs.Spelling.{parts_bytes, body_bytes, spell, size_of, rest_start}
use Rattle.dgn_drawing.specs.WellFormed.{IsDimension, IsBytes, HasBody, IsWellFormed, HasAttributesInPlace, begins_with_mark}
use Rattle.dgn_drawing.specs.Reading.{display_at, parts_at, body_in, form_at, end_at, element_at}
use Rattle.dgn_drawing.specs.Faults.{IsWhole, is_short, is_shown, breaks_attribute_rule}
use Rattle.dgn_drawing.proofs.BytesAt.{Has, has_then, has_same, has_rest, has_byte, rest_is, has_length}
use Rattle.dgn_drawing.proofs.Places.{in_both}
use Rattle.dgn_drawing.proofs.FormEnds.{end_in, end_by_form, end_of_form}
use Rattle.dgn_drawing.proofs.Fields.{byte_at, has_word, word_below}
use Rattle.dgn_drawing.proofs.Displays.{has_display, display_at_good}
use Rattle.dgn_drawing.proofs.Bodies.{AreSpelled, line_spelled, points_spelled, text_spelled, node_spelled, cell_spelled, header_spelled, plain_spelled}

-- a form with a display part ends behind it
start_after : (t : Bool) → 36 ≤ cond t 36 38
start_after true = omega arith
start_after false = omega arith

pub shown_end : (f : Form) (dim : ℕ) (b : List ℕ) → IsDimension dim → is_shown f ≡ true → 36 ≤ end_in f dim b
unfolding end_in
shown_end Form.Line dim b axes shown = let s = start_after (kind_of b == 3) in omega arith
shown_end Form.Points dim b axes shown = let s = start_after (kind_of b == 3) in omega arith
shown_end Form.Text dim b axes shown = in_both (λ (d : ℕ). 36 ≤ text_end d b) (omega arith) (omega arith) axes
shown_end Form.Node dim b axes shown = in_both (λ (d : ℕ). 36 ≤ node_end d) (omega arith) (omega arith) axes
shown_end Form.Cell dim b axes shown = in_both (λ (d : ℕ). 36 ≤ cell_end d) (omega arith) (omega arith) axes
shown_end Form.Header dim b axes shown = omega arith
shown_end Form.Plain dim b axes shown = omega arith
shown_end Form.Silent dim b axes shown = absurd (cc)

pub shown_after : (dim : ℕ) (b : List ℕ) → IsDimension dim → is_shown (form_at b) ≡ true → 36 ≤ end_at dim b
shown_after dim b axes shown =
    let same = end_by_form b axes in
    let after = shown_end (form_at b) dim b axes shown in
    omega arith

-- the body is spelled from byte 4 to the end, holds its values, and has its form
pub record IsSpelled (f : Form) (dim : ℕ) (b : List ℕ) (body : Body) : Type 0 where
  pub bytes : Has b 4 (body_bytes body) (length b)
  pub good : HasBody dim body
  pub form : form_of_body body ≡ f
  pub rest : length (rest_of body) ≡ length b - end_at dim b

-- the two bytes in front, from their parts
first_back : (x : ℕ) → x < 256 → x ≡ x % 64 + cond (x / 64 % 2 == 1) 64 0 + cond (x / 128 % 2 == 1) 128 0
first_back x small = grind (arith, nat_tests)

second_back : (x : ℕ) → x < 256 → x ≡ x % 128 + cond (x / 128 % 2 == 1) 128 0
second_back x small = grind (arith, nat_tests)

-- where the rule isn't broken, attribute data are in their place
kept_rule : (has before past : Bool) → (has && (before || past)) ≡ false → has ≡ true → (before ≡ false) × (past ≡ false)
kept_rule true before past e has = or_parts before past e
kept_rule false before past e has = cc

module _ (dim : ℕ) (b : List ℕ) (axes : IsDimension dim) (bytes : IsBytes b) where
  shown_spelled : (f : Form) → form_at b ≡ f → AreSpelled f dim b (parts_at f dim b) → 36 ≤ end_in f dim b → end_at dim b ≤ length b
      → IsSpelled f dim b (Shown (display_at b) (parts_at f dim b) (drop (end_at dim b) b))
  unfolding body_bytes
  shown_spelled f e parts after within =
      let ends = end_of_form b axes f e in
      record {
        bytes = has_then (has_display b bytes (omega arith))
            (has_then (subst (λ (q : ℕ). Has b 36 (parts_bytes (parts_at f dim b)) q) (sym ends) parts.bytes) (has_rest b (end_at dim b)));
        good = (display_at_good b bytes, parts.good, All-drop (λ x. x < 256) (end_at dim b) b bytes);
        form = parts.form;
        rest = length-drop (end_at dim b) b;
      }

  -- the end by the form is within too
  form_within : (f : Form) → form_at b ≡ f → end_at dim b ≤ length b → end_in f dim b ≤ length b
  form_within f e within = let ends = end_of_form b axes f e in omega arith

  pub body_spelled : (f : Form) → form_at b ≡ f → end_at dim b ≤ length b → IsSpelled f dim b (body_in f dim b)
  unfolding body_in body_bytes end_in
  body_spelled Form.Line e within =
      shown_spelled Form.Line e (line_spelled dim b axes bytes e (form_within Form.Line e within)) (shown_end Form.Line dim b axes refl) within
  body_spelled Form.Points e within =
      shown_spelled Form.Points e (points_spelled dim b axes bytes e (form_within Form.Points e within)) (shown_end Form.Points dim b axes refl) within
  body_spelled Form.Text e within =
      shown_spelled Form.Text e (text_spelled dim b axes bytes (form_within Form.Text e within)) (shown_end Form.Text dim b axes refl) within
  body_spelled Form.Node e within =
      shown_spelled Form.Node e (node_spelled dim b axes bytes (form_within Form.Node e within)) (shown_end Form.Node dim b axes refl) within
  body_spelled Form.Cell e within =
      shown_spelled Form.Cell e (cell_spelled dim b axes bytes (form_within Form.Cell e within)) (shown_end Form.Cell dim b axes refl) within
  body_spelled Form.Header e within =
      shown_spelled Form.Header e (header_spelled dim b axes bytes (form_within Form.Header e within)) (shown_end Form.Header dim b axes refl) within
  body_spelled Form.Plain e within = shown_spelled Form.Plain e (plain_spelled dim b axes bytes) (shown_end Form.Plain dim b axes refl) within
  body_spelled Form.Silent e within = record {
    bytes = has_rest b 4;
    good = All-drop (λ x. x < 256) 4 b bytes;
    form = refl;
    rest = length-drop 4 b ∙ ap (λ (n : ℕ). length b - n) (sym (end_of_form b axes Form.Silent e));
  }

  -- where the rule isn't broken, a record with that body keeps it
  shown_placed : (e : Element) (f : Form) → size_of e ≡ length b → rest_start e ≡ end_at dim b
      → (has_attributes b && (nat_lt (attributes_start b) (end_at dim b) || nat_lt (length b) (attributes_start b))) ≡ false
      → HasAttributesInPlace e (Shown (display_at b) (parts_at f dim b) (drop (end_at dim b) b))
  unfolding display_at
  shown_placed e f size ends kept has =
      let two = kept_rule (has_attributes b) (nat_lt (attributes_start b) (end_at dim b)) (nat_lt (length b) (attributes_start b)) kept has in
      let after : end_at dim b ≤ attributes_start b = ltb-false (attributes_start b) (end_at dim b) two.0 in
      let before : attributes_start b ≤ length b = ltb-false (length b) (attributes_start b) two.1 in
      (rw ends after, rw size before)

  pub placed : (e : Element) (f : Form) → size_of e ≡ length b → rest_start e ≡ end_at dim b
      → (is_shown f && has_attributes b && (nat_lt (attributes_start b) (end_at dim b) || nat_lt (length b) (attributes_start b))) ≡ false
      → HasAttributesInPlace e (body_in f dim b)
  unfolding body_in
  placed e Form.Silent size ends kept = tt
  placed e Form.Line size ends kept = shown_placed e Form.Line size ends kept
  placed e Form.Points size ends kept = shown_placed e Form.Points size ends kept
  placed e Form.Text size ends kept = shown_placed e Form.Text size ends kept
  placed e Form.Node size ends kept = shown_placed e Form.Node size ends kept
  placed e Form.Cell size ends kept = shown_placed e Form.Cell size ends kept
  placed e Form.Header size ends kept = shown_placed e Form.Header size ends kept
  placed e Form.Plain size ends kept = shown_placed e Form.Plain size ends kept

module _ (dim : ℕ) (b : List ℕ) (axes : IsDimension dim) (whole : IsWhole b) (long : is_short dim b ≡ false) where
  -- the body's end lies within
  end_within : end_at dim b ≤ length b
  end_within = ltb-false (length b) (end_at dim b) long

  spelled : IsSpelled (form_at b) dim b (body_in (form_at b) dim b)
  spelled = body_spelled dim b axes whole.bytes (form_at b) refl end_within

  half : length (body_bytes (body_in (form_at b) dim b)) / 2 ≡ word_at b 2
  half =
      let size = whole.size in
      let long = has_length spelled.bytes (omega arith) (omega arith) in
      omega arith

  -- bytes of one whole element that isn't short spell the record that is read there
  pub spell-element_at : spell (element_at dim b) ≡ b
  unfolding spell element_at
  spell-element_at =
      let size = whole.size in
      let one = has_same (ap (λ (x : ℕ). x ∷ []) (first_back (get_or b 0 0) (byte_at b 0 whole.bytes))) (has_byte b 0 1 refl (omega arith)) in
      let two = has_same (ap (λ (x : ℕ). x ∷ []) (second_back (get_or b 1 0) (byte_at b 1 whole.bytes))) (has_byte b 1 2 refl (omega arith)) in
      let three = has_same (ap word_bytes (sym half)) (has_word b 2 4 whole.bytes refl (omega arith)) in
      sym (rest_is (has_then one (has_then two (has_then three spelled.bytes))))

  pub size-element_at : size_of (element_at dim b) ≡ length b
  size-element_at = ap (length {A = ℕ}) spell-element_at

  pub end-element_at : rest_start (element_at dim b) ≡ end_at dim b
  unfolding element_at
  end-element_at =
      let size = size-element_at in
      let rest = spelled.rest in
      let within = end_within in
      omega arith

  -- and that record is well formed, where the attribute rule is kept too and no end mark stands there
  pub element_at_good : breaks_attribute_rule dim b ≡ false → begins_with_mark b ≡ false → IsWellFormed dim (element_at dim b)
  unfolding element_at
  element_at_good kept no_mark =
      let size = whole.size in
      let same : size_of (element_at dim b) ≡ length b = size-element_at in
      let small = word_below b 2 whole.bytes in
      record {
        level = omega arith;
        kind = omega arith;
        form = sym spelled.form;
        parts = spelled.good;
        even = rw same (omega arith);
        small = rw same (omega arith);
        no_mark = rw spell-element_at no_mark;
        attributes = placed dim b axes whole.bytes (element_at dim b) (form_at b) size-element_at end-element_at kept;
      }
