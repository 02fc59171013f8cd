-- Every field of a well formed record is what stands at its place in the record's spelling, and the
-- spelling is bytes, as many as its size word says.
use Rattle.std.proofs.Common.{◌≡◌, ℕ, ◌+◌, ◌-◌, ◌*◌, ◌/◌, ◌%◌, ◌<◌, List, [], ◌∷◌, ◌++◌, length, drop, refl, sym, ap, ◌∙◌, subst, arith, Bool, true, false}
use Rattle.std.proofs.Common.{length-drop}
use Rattle.std.proofs.lemmas.List.{append-nil, length-take-le}
use Rattle.std.proofs.lemmas.List.Elements.{All-nil, All-cons, All-append}
use Rattle.std.proofs.lemmas.Bool.{ltb-false}
use Rattle.std.specs.Prelude.{ℤ}
use Rattle.std.specs.List.{flat_map}
use Rattle.dgn_words.specs.Numbers.{word_bytes, long_word_bytes, long_bytes, range_long_bytes}
use Rattle.elem_head.specs.declared.types.Head.{Head}
use Rattle.elem_head.specs.declared.types.Symb.{Symb}
use Rattle.elem_head.specs.Head.{level_of, has_bit_c, kind_of, is_deleted, words_after, size_of as size_said}
use Rattle.range_code.specs.declared.Box3.{Box3}
use Rattle.body_text.specs.Texts.{chars_count, chars_start, chars_of}
use Rattle.dgn_drawing.specs.declared.form.Form.{Form}
use Rattle.dgn_drawing.specs.Element.{Display, Parts, Line, Points, Text, Node, Cell, Header, Plain, Body, Silent, Shown, Element, form_of_parts, form_of_body}
use Rattle.dgn_drawing.specs.Spelling.{bit, first_byte, second_byte, point_bytes, body_bytes, display_bytes, parts_bytes, spell, size_of, rest_start}
use Rattle.dgn_drawing.specs.WellFormed.{IsDimension, IsBytes, HasBody, HasParts, IsDisplay, IsWellFormed}
use Rattle.dgn_drawing.specs.Reading.{display_at, parts_at, body_in, form_at, end_at, element_at}
use Rattle.dgn_drawing.specs.Faults.{IsWhole}
use Rattle.dgn_drawing.specs.Laws.{HeadSits, DisplaySits, PartsSit, BodySits}
use Rattle.dgn_drawing.proofs.FormEnds.{end_in, end_of_form}
use Rattle.dgn_drawing.proofs.RecordsRead.{kind-spell, form-spell, size_said-spell, element_at-spell, end_at-spell, shown-spell, not_short}

-- a list of bytes
record AreBytes (b : List ℕ) : Type 0 where
  each : IsBytes b

none : AreBytes []
none = record { each = All-nil (λ x. x < 256) }

behind : (x : ℕ) {xs : List ℕ} → x < 256 → AreBytes xs → AreBytes (x ∷ xs)
behind x {xs} small rest = record { each = All-cons (λ x. x < 256) x xs small rest.each }

both : {x y : List ℕ} → AreBytes x → AreBytes y → AreBytes (x ++ y)
both {x} {y} one two = record { each = All-append (λ z. z < 256) x y one.each two.each }

given : {x : List ℕ} → IsBytes x → AreBytes x
given {x} h = record { each = h }

word_is_bytes : (v : ℕ) → AreBytes (word_bytes v)
word_is_bytes v = behind (v % 256) (omega arith) (behind (v / 256 % 256) (omega arith) none)

words_are_bytes : (u : ℕ) → AreBytes (long_word_bytes u)
words_are_bytes u = both (word_is_bytes (u / 65536)) (word_is_bytes (u % 65536))

all_bytes : {A : Type 0} (f : A → List ℕ) → ((x : A) → AreBytes (f x)) → (xs : List A) → AreBytes (flat_map f xs)
all_bytes f each [] = none
all_bytes f each (x ∷ xs) = both (each x) (all_bytes f each xs)

point_is_bytes : (p : List ℤ) → AreBytes (point_bytes p)
point_is_bytes p = all_bytes long_bytes (λ v. words_are_bytes _) p

display_is_bytes : (d : Display) → IsDisplay d → AreBytes (display_bytes d)
unfolding display_bytes
display_is_bytes d good =
    let style = good.style in
    let weight = good.weight in
    both (all_bytes range_long_bytes (λ v. words_are_bytes _) d.low) (both (all_bytes range_long_bytes (λ v. words_are_bytes _) d.high)
    (both (word_is_bytes d.group) (both (word_is_bytes d.index) (both (word_is_bytes d.properties)
    (behind (d.style + 8 * d.weight) (omega arith) (behind d.color good.color none))))))

parts_are_bytes : (dim : ℕ) (parts : Parts) → HasParts dim parts → AreBytes (parts_bytes parts)
unfolding parts_bytes
parts_are_bytes dim (Line points) good = all_bytes point_bytes point_is_bytes points
parts_are_bytes dim (Points points) good = both (word_is_bytes (length points)) (all_bytes point_bytes point_is_bytes points)
parts_are_bytes dim (Text run origin spare chars) good =
    let few = good.few in
    both (given good.before.bytes) (both (point_is_bytes origin)
    (behind (length chars) (omega arith) (behind spare good.byte (given good.bytes))))
parts_are_bytes dim (Node total run origin) good = both (word_is_bytes total) (both (given good.before.bytes) (point_is_bytes origin))
parts_are_bytes dim (Cell total name run origin) good =
    both (word_is_bytes total) (both (all_bytes word_bytes word_is_bytes name) (both (given good.before.bytes) (point_is_bytes origin)))
parts_are_bytes dim (Header total number) good = both (word_is_bytes total) (word_is_bytes number)
parts_are_bytes dim Plain good = none

body_is_bytes : (dim : ℕ) (body : Body) → HasBody dim body → AreBytes (body_bytes body)
unfolding body_bytes
body_is_bytes dim (Silent rest) good = given good
body_is_bytes dim (Shown d parts rest) good = both (display_is_bytes d good.0) (both (parts_are_bytes dim parts good.1) (given good.2))

first_below : (l : ℕ) (s c : Bool) → l < 64 → l + bit 64 s + bit 128 c < 256
first_below l true true small = omega arith
first_below l true false small = omega arith
first_below l false true small = omega arith
first_below l false false small = omega arith

second_below : (k : ℕ) (d : Bool) → k < 128 → k + bit 128 d < 256
second_below k true small = omega arith
second_below k false small = omega arith

abbrev head_with : ℕ → Bool → ℕ → Bool → ℕ → Head
head_with level cbit kind deleted words = record { level = level; cbit = cbit; kind = kind; deleted = deleted; words = words }

abbrev box_with : List ℤ → List ℤ → Box3
box_with low high = record { lo = low; hi = high }

abbrev symb_with : ℕ → ℕ → ℕ → Symb
symb_with color weight style = record { color = color; weight = weight; style = style }

module _ (dim : ℕ) (e : Element) (axes : IsDimension dim) (good : IsWellFormed dim e) where
  -- the spelling is the bytes of one whole element
  pub whole-spell : IsWhole (spell e)
  unfolding spell
  whole-spell = record {
    size = sym (size_said-spell dim e axes good []) ∙ ap size_said (append-nil (spell e));
    bytes = (behind (first_byte e) (first_below e.level e.bit6 e.cbit good.level)
        (behind (second_byte e) (second_below e.kind e.deleted good.kind)
        (both (word_is_bytes (length (body_bytes e.body) / 2)) (body_is_bytes dim e.body good.parts)))).each;
  }

  pub head-sits : HeadSits e
  unfolding element_at
  head-sits =
      let same = element_at-spell dim e axes good in
      let said = whole-spell.size in
      let level : level_of (spell e) ≡ e.level = ap (λ (x : Element). x.level) same in
      let cbit : has_bit_c (spell e) ≡ e.cbit = ap (λ (x : Element). x.cbit) same in
      let kind : kind_of (spell e) ≡ e.kind = ap (λ (x : Element). x.kind) same in
      let deleted : is_deleted (spell e) ≡ e.deleted = ap (λ (x : Element). x.deleted) same in
      let words : words_after (spell e) ≡ (size_of e - 4) / 2 = omega arith in
      record {
        head = let h : head_with (level_of (spell e)) (has_bit_c (spell e)) (kind_of (spell e)) (is_deleted (spell e)) (words_after (spell e))
            ≡ head_with e.level e.cbit e.kind e.deleted ((size_of e - 4) / 2) = cc in h;
        bit6 = ap (λ (x : Element). x.bit6) same;
      }

  display-sits : (d : Display) → display_at (spell e) ≡ d → DisplaySits (spell e) d
  unfolding display_at
  display-sits d same = record {
    range = ap (λ (x : Display). box_with x.low x.high) same;
    group = ap (λ (x : Display). x.group) same;
    index = ap (λ (x : Display). x.index) same;
    properties = ap (λ (x : Display). x.properties) same;
    symbology = ap (λ (x : Display). symb_with x.color x.weight x.style) same;
  }

  text-count : form_at (spell e) ≡ Form.Text → length (chars_of dim (spell e)) ≡ chars_count dim (spell e)
  unfolding end_in
  text-count is =
      let within = ltb-false (length (spell e)) (end_at dim (spell e)) (not_short dim e axes good) in
      let ends = end_of_form (spell e) axes Form.Text is in
      length-take-le (chars_count dim (spell e)) (drop (chars_start dim) (spell e)) (omega (arith, length-drop (chars_start dim) (spell e)))

  parts-sit : (parts : Parts) → form_at (spell e) ≡ form_of_parts parts → parts_at (form_of_parts parts) dim (spell e) ≡ parts
      → PartsSit dim (kind_of (spell e)) (spell e) parts
  unfolding parts_at
  parts-sit (Line points) is same = cc
  parts-sit (Points points) is same = cc
  parts-sit (Text run origin spare chars) is same =
      let chars_are : chars_of dim (spell e) ≡ chars = cc in
      record { origin_is = cc; count_is = sym (text-count is) ∙ ap (length {A = ℕ}) chars_are; chars_are = chars_are }
  parts-sit (Node total run origin) is same = record { total_is = cc; origin_is = cc }
  parts-sit (Cell total name run origin) is same = record { total_is = cc; name_is = cc; origin_is = cc }
  parts-sit (Header total number) is same = (cc, cc)
  parts-sit Plain is same = tt

  body-sits : (body : Body) → e.body ≡ body → BodySits dim e body
  unfolding element_at body_in
  body-sits (Silent rest) is =
      let same : body_in (form_at (spell e)) dim (spell e) ≡ e.body = ap (λ (x : Element). x.body) (element_at-spell dim e axes good) in
      let form : form_at (spell e) ≡ Form.Silent = form-spell dim e axes good ∙ ap form_of_body is in
      let read : body_in Form.Silent dim (spell e) ≡ Silent rest = ap (λ (f : Form). body_in f dim (spell e)) (sym form) ∙ same ∙ is in
      cc
  body-sits (Shown d parts rest) is =
      let three = shown-spell dim e axes good d parts rest is in
      let form : form_at (spell e) ≡ form_of_parts parts = form-spell dim e axes good ∙ ap form_of_body is in
      let ends : end_at dim (spell e) ≡ rest_start e = end_at-spell dim e axes good in (
        display-sits d three.0,
        subst (λ (k : ℕ). PartsSit dim k (spell e) parts) (kind-spell dim e axes good) (parts-sit parts form three.1),
        ap (λ (k : ℕ). drop k (spell e)) (sym ends) ∙ three.2,
      )

  pub all-sits : HeadSits e × BodySits dim e e.body
  all-sits = (head-sits, body-sits e.body refl)
