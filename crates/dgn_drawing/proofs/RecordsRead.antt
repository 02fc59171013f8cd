-- A well formed record is read from its own spelling, which has neither fault. So records with one
-- spelling are the same, and no spelling begins another one.
use Rattle.std.proofs.Common.{◌≡◌, ℕ, ◌+◌, ◌/◌, ◌%◌, ◌<◌, List, [], ◌++◌, length, drop, refl, sym, ap, ◌∙◌, arith, Bool, true, false, length-append}
use Rattle.std.proofs.lemmas.List.{append-nil, nil_from_length}
use Rattle.std.proofs.lemmas.Bool.{le-ltb, or_from}
use Rattle.std.proofs.lemmas.Bool.Decides.{nat_tests}
use Rattle.std.specs.Prelude.{◌==◌, nat_lt, ◌&&◌, ◌||◌}
use Rattle.elem_head.specs.Head.{level_of, has_bit_c, kind_of, is_deleted, has_attributes, attributes_start, properties_of, size_of as size_said}
use Rattle.dgn_drawing.specs.declared.form.Form.{Form}
use Rattle.dgn_drawing.specs.Forms.{form_of}
use Rattle.dgn_drawing.specs.Element.{Display, Parts, Line, Points, Text, Node, Cell, Header, Plain, Body, Silent, Shown, Element, form_of_parts}
use Rattle.dgn_drawing.specs.Element.{form_of_body, rest_of}
use Rattle.dgn_drawing.specs.Spelling.{bit, body_bytes, display_bytes, parts_bytes, spell, size_of, rest_start}
use Rattle.dgn_drawing.specs.WellFormed.{IsDimension, HasBody, IsWellFormed, HasAttributesInPlace, says_attributes}
use Rattle.dgn_drawing.specs.Reading.{has_bit_6, display_at, parts_at, body_in, form_at, end_at, element_at, index_of}
use Rattle.dgn_drawing.specs.declared.body_fault.BodyFault.{BodyFault}
use Rattle.std.specs.declared.result.Result.{Result}
use Rattle.std.specs.declared.result.Result.TheVariants.{Ok}
use Rattle.dgn_drawing.specs.Faults.{is_short, is_shown, breaks_attribute_rule, element_fault}
use Rattle.dgn_drawing.proofs.BytesAt.{Has, has_first, has_rest, rest_is}
use Rattle.dgn_drawing.proofs.FormEnds.{end_in, end_of_form}
use Rattle.dgn_drawing.proofs.Displays.{display_is, length-display}
use Rattle.dgn_drawing.proofs.Bodies.{parts_read}

-- the parts of the two bytes in front
level_back : (l : ℕ) (s c : Bool) → l < 64 → (l + bit 64 s + bit 128 c) % 64 ≡ l
level_back l true true small = omega arith
level_back l true false small = omega arith
level_back l false true small = omega arith
level_back l false false small = omega arith

bit_6_back : (l : ℕ) (s c : Bool) → l < 64 → ((l + bit 64 s + bit 128 c) / 64 % 2 == 1) ≡ s
bit_6_back l true true small = grind (arith, nat_tests)
bit_6_back l true false small = grind (arith, nat_tests)
bit_6_back l false true small = grind (arith, nat_tests)
bit_6_back l false false small = grind (arith, nat_tests)

bit_c_back : (l : ℕ) (s c : Bool) → l < 64 → ((l + bit 64 s + bit 128 c) / 128 % 2 == 1) ≡ c
bit_c_back l true true small = grind (arith, nat_tests)
bit_c_back l true false small = grind (arith, nat_tests)
bit_c_back l false true small = grind (arith, nat_tests)
bit_c_back l false false small = grind (arith, nat_tests)

kind_back : (k : ℕ) (d : Bool) → k < 128 → (k + bit 128 d) % 128 ≡ k
kind_back k true small = omega arith
kind_back k false small = omega arith

deleted_back : (k : ℕ) (d : Bool) → k < 128 → ((k + bit 128 d) / 128 % 2 == 1) ≡ d
deleted_back k true small = grind (arith, nat_tests)
deleted_back k false small = grind (arith, nat_tests)

-- a body with a display part, by its form
body_shown : (dim : ℕ) (b : List ℕ) (parts : Parts)
    → body_in (form_of_parts parts) dim b ≡ Shown (display_at b) (parts_at (form_of_parts parts) dim b) (drop (end_at dim b) b)
unfolding body_in
body_shown dim b (Line points) = refl
body_shown dim b (Points points) = refl
body_shown dim b (Text run origin spare chars) = refl
body_shown dim b (Node total run origin) = refl
body_shown dim b (Cell total name run origin) = refl
body_shown dim b (Header total number) = refl
body_shown dim b Plain = refl

-- where the body is spelled, it is read
module _ (dim : ℕ) (b : List ℕ) (axes : IsDimension dim) where
  pub record IsRead (body : Body) : Type 0 where
    pub same : body_in (form_of_body body) dim b ≡ body
    pub ends : end_at dim b + length (rest_of body) ≡ 4 + length (body_bytes body)

  pub body_read : (body : Body) → HasBody dim body → form_of (kind_of b) ≡ form_of_body body → Has b 4 (body_bytes body) (length b) → IsRead body
  unfolding body_bytes body_in end_in
  body_read (Silent rest) good f h = record { same = ap Silent (rest_is h); ends = ap (λ (n : ℕ). n + length rest) (end_of_form b axes Form.Silent f) }
  body_read (Shown d parts rest) good f h =
      let long = length-display d good.0 in
      let one = has_first {b = b} {x = display_bytes d} 36 (omega arith) h in
      let q : ℕ = 36 + length (parts_bytes parts) in
      let two = has_first {b = b} {x = parts_bytes parts} q refl one.1 in
      let read = parts_read dim b q axes parts good.1 f refl two.0 in
      let e1 : display_at b ≡ d = display_is d good.0 one.0 in
      let e2 = read.same in
      let ends : end_at dim b ≡ q = end_of_form b axes (form_of_parts parts) f ∙ read.ends in
      let e3 : drop (end_at dim b) b ≡ rest = ap (λ (k : ℕ). drop k b) ends ∙ rest_is two.1 in
      let e4 = body_shown dim b parts in
      let size = length-append (display_bytes d) (parts_bytes parts ++ rest) in
      let size2 = length-append (parts_bytes parts) rest in
      record { same = cc; ends = omega arith }

abbrev element_with : ℕ → Bool → Bool → ℕ → Bool → Body → Element
element_with level bit6 cbit kind deleted body = record { level = level; bit6 = bit6; cbit = cbit; kind = kind; deleted = deleted; body = body }

-- elements with the same parts are the same
same_elements : (x y : Element) → x.level ≡ y.level → x.bit6 ≡ y.bit6 → x.cbit ≡ y.cbit → x.kind ≡ y.kind → x.deleted ≡ y.deleted → x.body ≡ y.body → x ≡ y
same_elements x y level bit6 cbit kind deleted body =
    let e : element_with x.level x.bit6 x.cbit x.kind x.deleted x.body ≡ element_with y.level y.bit6 y.cbit y.kind y.deleted y.body = cc in e

-- where attribute data are in their place, the rule is kept
rule_from : (shown has before past : Bool) → (has ≡ true → (before ≡ false) × (past ≡ false)) → (shown && has && (before || past)) ≡ false
rule_from false has before past in_place = refl
rule_from true false before past in_place = refl
rule_from true true before past in_place = or_from before past (in_place refl).0 (in_place refl).1

abbrev pub no_fault : Result (Unit {0}) BodyFault
no_fault = Ok tt

module _ (dim : ℕ) (e : Element) (axes : IsDimension dim) (good : IsWellFormed dim e) where
  pub kind-spell : kind_of (spell e) ≡ e.kind
  unfolding spell
  kind-spell = kind_back e.kind e.deleted good.kind

  pub size-spell : size_of e ≡ 4 + length (body_bytes e.body)
  unfolding spell
  size-spell = omega arith

  pub has_body : Has (spell e) 4 (body_bytes e.body) (length (spell e))
  unfolding spell
  has_body = has_rest (spell e) 4

  pub form-spell : form_at (spell e) ≡ form_of_body e.body
  form-spell = ap form_of kind-spell ∙ good.form

  read : IsRead dim (spell e) axes e.body
  read = body_read dim (spell e) axes e.body good.parts form-spell has_body

  -- the size word is the size's, also where more bytes follow
  pub size_said-spell : (x : List ℕ) → size_said (spell e ++ x) ≡ size_of e
  unfolding spell
  size_said-spell x =
      let even = good.even in
      let small = good.small in
      omega arith

  -- the record is read from its spelling
  pub element_at-spell : element_at dim (spell e) ≡ e
  unfolding spell element_at
  element_at-spell =
      let f1 : level_of (spell e) ≡ e.level = level_back e.level e.bit6 e.cbit good.level in
      let f2 : has_bit_6 (spell e) ≡ e.bit6 = bit_6_back e.level e.bit6 e.cbit good.level in
      let f3 : has_bit_c (spell e) ≡ e.cbit = bit_c_back e.level e.bit6 e.cbit good.level in
      let f4 : kind_of (spell e) ≡ e.kind = kind-spell in
      let f5 : is_deleted (spell e) ≡ e.deleted = deleted_back e.kind e.deleted good.kind in
      let f6 : body_in (form_at (spell e)) dim (spell e) ≡ e.body = ap (λ (f : Form). body_in f dim (spell e)) form-spell ∙ read.same in
      same_elements (element_at dim (spell e)) e f1 f2 f3 f4 f5 f6

  -- the body's end by the tables is the size without the rest
  pub end_at-spell : end_at dim (spell e) ≡ rest_start e
  end_at-spell =
      let ends = read.ends in
      let size = size-spell in
      omega arith

  -- the spelling is long enough
  pub not_short : is_short dim (spell e) ≡ false
  not_short = le-ltb (length (spell e)) (end_at dim (spell e)) (rw end_at-spell (omega arith))

  -- each piece of a body with a display part is read from the spelling
  pub shown-spell : (d : Display) (parts : Parts) (rest : List ℕ) → e.body ≡ Shown d parts rest
      → (display_at (spell e) ≡ d) × (parts_at (form_of_parts parts) dim (spell e) ≡ parts) × (drop (end_at dim (spell e)) (spell e) ≡ rest)
  shown-spell d parts rest is =
      let e1 : body_in (form_of_parts parts) dim (spell e) ≡ Shown d parts rest =
      ap (λ (body : Body). body_in (form_of_body body) dim (spell e)) (sym is) ∙ read.same ∙ is in
      let e2 = body_shown dim (spell e) parts in
      (cc, cc, cc)

  kept_by : (body : Body) → e.body ≡ body → HasAttributesInPlace e body → breaks_attribute_rule dim (spell e) ≡ false
  unfolding display_at
  kept_by (Silent rest) is in_place =
      let silent : is_shown (form_at (spell e)) ≡ false = ap is_shown (form-spell ∙ ap form_of_body is) in
      rw silent refl
  kept_by (Shown d parts rest) is in_place =
      let same = (shown-spell d parts rest is).0 in
      let index : index_of (spell e) ≡ d.index = ap (λ (x : Display). x.index) same in
      let properties : properties_of (spell e) ≡ d.properties = ap (λ (x : Display). x.properties) same in
      let has : has_attributes (spell e) ≡ says_attributes d.properties = ap says_attributes properties in
      let ends = end_at-spell in
      rule_from (is_shown (form_at (spell e))) (has_attributes (spell e)) (nat_lt (attributes_start (spell e)) (end_at dim (spell e)))
      (nat_lt (length (spell e)) (attributes_start (spell e)))
      (λ set. let place = in_place (sym has ∙ set) in (le-ltb _ _ (omega arith), le-ltb _ _ (omega arith)))

  -- and keeps the attribute rule
  pub rule_kept : breaks_attribute_rule dim (spell e) ≡ false
  rule_kept = kept_by e.body refl good.attributes

  -- so it has no fault
  pub element_fault-spell : element_fault dim (spell e) ≡ no_fault
  element_fault-spell = rw (not_short, rule_kept) refl

-- records with one spelling are the same, and a spelling that begins another one is that one
pub one_spelling : (dim : ℕ) (e f : Element) → IsDimension dim → IsWellFormed dim e → IsWellFormed dim f → (x : List ℕ) → spell e ++ x ≡ spell f → (e ≡ f)
    × (x ≡ [])
one_spelling dim e f axes good_e good_f x same =
    let size : size_of e ≡ size_of f =
    sym (size_said-spell dim e axes good_e x) ∙ ap size_said (same ∙ sym (append-nil (spell f))) ∙ size_said-spell dim f axes good_f [] in
    let none : x ≡ [] = nil_from_length x (omega (arith, ap (length {A = ℕ}) same, length-append (spell e) x)) in
    let spelled : spell e ≡ spell f = sym (append-nil (spell e)) ∙ ap (λ y. spell e ++ y) (sym none) ∙ same in
    (sym (element_at-spell dim e axes good_e) ∙ ap (element_at dim) spelled ∙ element_at-spell dim f axes good_f, none)
