-- A header put right is byte 0 and two bytes of the element, and is well formed and as large as it was.
use Rattle.std.proofs.Common.{◌≡◌, ℕ, ◌+◌, ◌*◌, ◌/◌, ◌<◌, ◌==◌, Bool, true, false, cond, List, [], ◌∷◌, ◌++◌, length, refl, sym, ap, ◌∙◌, subst, append_assoc, arith, length-append}
use Rattle.std.specs.Prelude.{ℤ, ◌&&◌, ◌||◌, not}
use Rattle.std.specs.List.{flat_map}
use Rattle.std.proofs.lemmas.Bool.{cond_both, both_ways, eqb-true}
use Rattle.std.proofs.lemmas.Bool.Decides.{nat_tests}
use Rattle.dgn_words.specs.Numbers.{word_bytes}
use Rattle.patch_bytes.specs.Puts.{Put}
use Rattle.dgn_layout.specs.declared.types.Class.{Class}
use Rattle.dgn_layout.specs.Classes.{class_of}
use Rattle.dgn_drawing.specs.Forms.{form_in, form_of}
use Rattle.dgn_drawing.specs.Element.{Display, Parts, Line, Points, Text, Node, Cell, Header, Plain, Body, Silent, Shown, Element, form_of_parts, form_of_body}
use Rattle.dgn_drawing.specs.Spelling.{bit, first_byte, second_byte, display_bytes, parts_bytes, point_bytes, body_bytes, spell, size_of}
use Rattle.dgn_drawing.specs.WellFormed.{HasParts, IsDisplay, IsBytes, HasAttributesInPlace, IsWellFormed}
use Rattle.dgn_drawing.specs.Nesting.{is_counted}
use Rattle.dgn_drawing.specs.Rows.{total_of, total_of_parts}
use Rattle.dgn_drawing.proofs.Displays.{length-display}
use Rattle.dgn_drawing.proofs.Pieces.{lay-over}
use Rattle.edit_ops.proofs.TextTurns.{Turns, turns_none, turns_then}
use Rattle.dgn_mend.specs.Mending.{parts_totalled, body_totalled, has_changed, header_puts}

-- no other form is that of a counted header
no_form : (c : Class) (kind : ℕ) (body : Body) → is_counted c ≡ true → (form_of_parts (Cell 0 [] [] []) ≡ form_of_body body → ⊥)
    → (form_of_parts (Node 0 [] []) ≡ form_of_body body → ⊥) → (form_of_parts (Header 0 0) ≡ form_of_body body → ⊥) → form_in c kind ≡ form_of_body body → ⊥
no_form Class.Counted kind body counted cell node header =
    cond_both (kind == 2) (form_of_parts (Cell 0 [] [] [])) (cond (kind == 7) (form_of_parts (Node 0 [] [])) (form_of_parts (Header 0 0)))
    (λ f. f ≡ form_of_body body → ⊥) (λ _. cell)
    (λ _. cond_both (kind == 7) (form_of_parts (Node 0 [] [])) (form_of_parts (Header 0 0)) (λ f. f ≡ form_of_body body → ⊥) (λ _. node) (λ _. header))
no_form Class.Vertices kind body counted cell node header = absurd (both_ways false refl counted)
no_form Class.Words kind body counted cell node header = absurd (both_ways false refl counted)
no_form Class.Run kind body counted cell node header = absurd (both_ways false refl counted)
no_form Class.Floating kind body counted cell node header = absurd (both_ways false refl counted)
no_form Class.Boxed kind body counted cell node header = absurd (both_ways false refl counted)
no_form Class.Silent kind body counted cell node header = absurd (both_ways false refl counted)

abbrev HasForm : ℕ → Body → Type 0
HasForm kind body = form_in (class_of kind) kind ≡ form_of_body body

none_such : (kind : ℕ) (body : Body) → is_counted (class_of kind) ≡ true → HasForm kind body → (form_of_parts (Cell 0 [] [] []) ≡ form_of_body body → ⊥)
    → (form_of_parts (Node 0 [] []) ≡ form_of_body body → ⊥) → (form_of_parts (Header 0 0) ≡ form_of_body body → ⊥) → ⊥
none_such kind body counted form cell node header = no_form (class_of kind) kind body counted cell node header form

-- the parts of a counted header: a total, and what stands behind it
record AreHeaderParts (dim : ℕ) (parts : Parts) : Type 0 where
  pub more : List ℕ
  pub spelled : (t : ℕ) → parts_bytes (parts_totalled t parts) ≡ word_bytes t ++ more
  pub own : parts_totalled (total_of_parts parts) parts ≡ parts
  pub total : (t : ℕ) → total_of_parts (parts_totalled t parts) ≡ t
  pub form : (t : ℕ) → form_of_parts (parts_totalled t parts) ≡ form_of_parts parts
  pub held : (t : ℕ) → t < 65536 → HasParts dim (parts_totalled t parts)
  pub small : total_of_parts parts < 65536

header_parts : (dim kind : ℕ) (d : Display) (parts : Parts) (rest : List ℕ) → HasParts dim parts → is_counted (class_of kind) ≡ true
    → HasForm kind (Shown d parts rest) → AreHeaderParts dim parts
unfolding parts_bytes
header_parts dim kind d (Node total run origin) rest good counted form = record {
  more = run ++ point_bytes origin;
  spelled = λ t. refl;
  own = refl;
  total = λ t. refl;
  form = λ t. refl;
  held = λ t small. record { word = small; before = good.before; point = good.point };
  small = good.word;
}
header_parts dim kind d (Cell total name run origin) rest good counted form = record {
  more = flat_map word_bytes name ++ (run ++ point_bytes origin);
  spelled = λ t. refl;
  own = refl;
  total = λ t. refl;
  form = λ t. refl;
  held = λ t small. record { word = small; name_long = good.name_long; name_words = good.name_words; before = good.before; point = good.point };
  small = good.word;
}
header_parts dim kind d (Header total number) rest good counted form = record {
  more = word_bytes number;
  spelled = λ t. refl;
  own = refl;
  total = λ t. refl;
  form = λ t. refl;
  held = λ t small. (small, good.1);
  small = good.0;
}
header_parts dim kind d (Line points) rest good counted form =
    absurd (none_such kind (Shown d (Line points) rest) counted form (λ is. cc) (λ is. cc) (λ is. cc))
header_parts dim kind d (Points points) rest good counted form =
    absurd (none_such kind (Shown d (Points points) rest) counted form (λ is. cc) (λ is. cc) (λ is. cc))
header_parts dim kind d (Text run origin spare chars) rest good counted form =
    absurd (none_such kind (Shown d (Text run origin spare chars) rest) counted form (λ is. cc) (λ is. cc) (λ is. cc))
header_parts dim kind d Plain rest good counted form =
    absurd (none_such kind (Shown d Plain rest) counted form (λ is. cc) (λ is. cc) (λ is. cc))

-- a header with this bit C and this total
abbrev headed : Element → Display → List ℕ → Parts → Bool → ℕ → Element
headed e d rest parts c t = record e { cbit = c; body = Shown d (parts_totalled t parts) rest }

-- one put turns what it covers
turns_one : (p : ℕ) (x y : List ℕ) → length x ≡ length y → Turns p x (record { at = p; bytes = y } ∷ []) y
turns_one p x y same = record { same = same; span = (omega arith, omega (arith, same)); turns = λ a b long. lay-over a x b y p long same }

-- the first byte without bit C is below 128
first_small : (level : ℕ) (bit6 : Bool) → level < 64 → level + bit 64 bit6 + bit 128 false < 255
first_small level true small = omega (arith, small)
first_small level false small = omega (arith, small)

first_differs : (x y : ℕ) → x < 255 → (x == 255 && y == 255) ≡ false
first_differs x y small = grind (arith, nat_tests)

module _ (dim : ℕ) (e : Element) (d : Display) (parts : Parts) (rest : List ℕ) (h : AreHeaderParts dim parts) where
  abbrev behind : List ℕ
  behind = h.more ++ rest

  abbrev middle : ℕ → List ℕ
  middle words = second_byte e ∷ (word_bytes words ++ display_bytes d)

  long_body : (t : ℕ) → length (body_bytes (Shown d (parts_totalled t parts) rest)) ≡ length (display_bytes d) + (2 + length behind)
  unfolding body_bytes
  long_body t =
      omega (arith, length-append {A = ℕ}, ap (length {A = ℕ}) (h.spelled t))

  spell-headed : (c : Bool) (t words : ℕ) → length (body_bytes (Shown d (parts_totalled t parts) rest)) / 2 ≡ words
      → spell (headed e d rest parts c t) ≡ (first_byte (headed e d rest parts c t) ∷ []) ++ (middle words ++ (word_bytes t ++ behind))
  unfolding spell body_bytes
  spell-headed c t words is = rw (is, h.spelled t) (simp append_assoc)

  size-headed : (c c' : Bool) (t t' : ℕ) → size_of (headed e d rest parts c t) ≡ size_of (headed e d rest parts c' t')
  unfolding spell
  size-headed c c' t t' = omega (arith, long_body t, long_body t')

  headed_turned : (c c' : Bool) (t t' p : ℕ) → IsDisplay d
      → Turns p (spell (headed e d rest parts c t)) (header_puts p (headed e d rest parts c' t')) (spell (headed e d rest parts c' t'))
  headed_turned c c' t t' p display =
      let words : ℕ = length (body_bytes (Shown d (parts_totalled t parts) rest)) / 2 in
      let same : length (body_bytes (Shown d (parts_totalled t' parts) rest)) / 2 ≡ words = ap (λ (n : ℕ). n / 2) (long_body t' ∙ sym (long_body t)) in
      let put : List Put = record { at = p + 36; bytes = word_bytes t' } ∷ [] in
      let word : Turns (p + 36) (word_bytes t ++ behind) put (word_bytes t' ++ behind) =
      turns_then (p + 36) (p + 38) (word_bytes t) behind (word_bytes t') behind put [] (omega arith)
      (turns_one (p + 36) (word_bytes t) (word_bytes t') refl) (turns_none (p + 38) behind) in
      let back : Turns (p + 1) (middle words ++ (word_bytes t ++ behind)) put (middle words ++ (word_bytes t' ++ behind)) =
      turns_then (p + 1) (p + 36) (middle words) (word_bytes t ++ behind) (middle words) (word_bytes t' ++ behind) [] put
      (omega (arith, length-append (word_bytes words) (display_bytes d), length-display d display)) (turns_none (p + 1) (middle words)) word in
      let first : List ℕ = first_byte (headed e d rest parts c t) ∷ [] in
      let first' : List ℕ = first_byte (headed e d rest parts c' t') ∷ [] in
      let whole = turns_then p (p + 1) first (middle words ++ (word_bytes t ++ behind)) first' (middle words ++ (word_bytes t' ++ behind))
      (record { at = p; bytes = first' } ∷ []) put refl (turns_one p first first' refl) back in
      let puts : List Put = record { at = p; bytes = first' } ∷ put in
      let named : puts ≡ header_puts p (headed e d rest parts c' t') =
      ap (λ (n : ℕ). record { at = p; bytes = first' } ∷ record { at = p + 36; bytes = word_bytes n } ∷ []) (sym (h.total t')) in
      subst (λ (ps : List Put). Turns p (spell (headed e d rest parts c t)) ps (spell (headed e d rest parts c' t'))) named
      (subst (λ (x : List ℕ). Turns p x puts (spell (headed e d rest parts c' t'))) (sym (spell-headed c t words refl))
      (subst (λ (y : List ℕ). Turns p (first ++ (middle words ++ (word_bytes t ++ behind))) puts y) (sym (spell-headed c' t' words same)) whole))

  -- with another total it stays well formed
  headed_good : (c : Bool) (t t' : ℕ) → t' < 65536 → IsWellFormed dim (headed e d rest parts c t) → IsWellFormed dim (headed e d rest parts c t')
  unfolding spell
  headed_good c t t' small good = record {
    level = good.level;
    kind = good.kind;
    form = good.form ∙ h.form t ∙ sym (h.form t');
    parts = (good.parts.0, h.held t' small, good.parts.2);
    even = rw (size-headed c c t' t) good.even;
    small = rw (size-headed c c t' t) good.small;
    no_mark = good.no_mark;
    attributes = λ says. let held = good.attributes says in (rw (size-headed c c t' t) held.0, rw (size-headed c c t' t) held.1);
  }

  -- and without bit C
  freed_good : (t : ℕ) → IsWellFormed dim (headed e d rest parts e.cbit t) → IsWellFormed dim (headed e d rest parts false t)
  unfolding spell
  freed_good t good = record {
    level = good.level;
    kind = good.kind;
    form = good.form;
    parts = good.parts;
    even = good.even;
    small = good.small;
    no_mark = first_differs (first_byte (headed e d rest parts false t)) (second_byte e) (first_small e.level e.bit6 good.level);
    attributes = good.attributes;
  }

  kept_or_freed : (frees c : Bool) (t : ℕ) → e.cbit ≡ c → IsWellFormed dim (headed e d rest parts e.cbit t)
      → IsWellFormed dim (headed e d rest parts (c && not frees) t)
  kept_or_freed true true t is good = freed_good t good
  kept_or_freed true false t is good = freed_good t good
  kept_or_freed false true t is good = subst (λ (c : Bool). IsWellFormed dim (headed e d rest parts c t)) is good
  kept_or_freed false false t is good = freed_good t good

-- a header put right, and the puts that turn it
pub record IsHeaderPut (dim : ℕ) (e m : Element) : Type 0 where
  pub good : IsWellFormed dim m
  pub size : size_of m ≡ size_of e
  pub turned : (p : ℕ) → Turns p (spell e) (header_puts p m) (spell m)
  pub same : has_changed e m ≡ false → m ≡ e

-- nothing has changed where neither the total nor bit C has
neither : (a b : ℕ) (c frees : Bool) → (not (a == b) || (c && not (c && not frees))) ≡ false → (a ≡ b) × ((c && not frees) ≡ c)
neither a b true true is = absurd (grind (arith, nat_tests))
neither a b true false is = (grind (arith, nat_tests), refl)
neither a b false true is = (grind (arith, nat_tests), refl)
neither a b false false is = (grind (arith, nat_tests), refl)

put_as : (dim : ℕ) (e : Element) (d : Display) (parts : Parts) (rest : List ℕ) (frees : Bool) (t : ℕ) → t < 65536
    → IsWellFormed dim (record e { body = Shown d parts rest }) → AreHeaderParts dim parts
    → IsHeaderPut dim (record e { body = Shown d parts rest }) (headed e d rest parts (e.cbit && not frees) t)
put_as dim e d parts rest frees t small good h =
    let as_is : headed e d rest parts e.cbit (total_of_parts parts) ≡ record e { body = Shown d parts rest } =
    ap (λ (p : Parts). record e { body = Shown d p rest }) h.own in
    let held : IsWellFormed dim (headed e d rest parts e.cbit (total_of_parts parts)) = subst (IsWellFormed dim) (sym as_is) good in
    record {
      good = kept_or_freed dim e d parts rest h frees e.cbit t refl (headed_good dim e d parts rest h e.cbit (total_of_parts parts) t small held);
      size = size-headed dim e d parts rest h (e.cbit && not frees) e.cbit t (total_of_parts parts) ∙ ap (λ (x : Element). size_of x) as_is;
      turned = λ p. subst (λ (x : Element). Turns p (spell x) (header_puts p (headed e d rest parts (e.cbit && not frees) t))
          (spell (headed e d rest parts (e.cbit && not frees) t))) as_is
          (headed_turned dim e d parts rest h e.cbit (e.cbit && not frees) (total_of_parts parts) t p good.parts.0);
      same = λ is. let both = neither (total_of_parts parts) (total_of_parts (parts_totalled t parts)) e.cbit frees is in
          ap (λ (c : Bool). headed e d rest parts c t) both.1
          ∙ ap (λ (n : ℕ). headed e d rest parts e.cbit n) (sym (h.total t) ∙ sym both.0)
          ∙ as_is;
    }

by_body : (dim : ℕ) (e : Element) (frees : Bool) (t : ℕ) (b : Body) → t < 65536 → is_counted (class_of e.kind) ≡ true
    → IsWellFormed dim (record e { body = b })
    → (total_of b < 65536) × IsHeaderPut dim (record e { body = b }) (record e { cbit = e.cbit && not frees; body = body_totalled t b })
unfolding form_of
by_body dim e frees t (Silent rest) small counted good = absurd (none_such e.kind (Silent rest) counted good.form (λ is. cc) (λ is. cc) (λ is. cc))
by_body dim e frees t (Shown d parts rest) small counted good =
    let h = header_parts dim e.kind d parts rest good.parts.1 counted good.form in
    (h.small, put_as dim e d parts rest frees t small good h)

-- a counted header with another total, and freed or not
pub header_put : (dim : ℕ) (e : Element) (frees : Bool) (t : ℕ) → t < 65536 → is_counted (class_of e.kind) ≡ true → IsWellFormed dim e
    → IsHeaderPut dim e (record e { cbit = e.cbit && not frees; body = body_totalled t e.body })
header_put dim e frees t small counted good = (by_body dim e frees t e.body small counted good).1

-- its total is the one that is put
total_in : (dim : ℕ) (e : Element) (t : ℕ) (b : Body) → is_counted (class_of e.kind) ≡ true → IsWellFormed dim (record e { body = b })
    → total_of (body_totalled t b) ≡ t
unfolding form_of
total_in dim e t (Silent rest) counted good = absurd (none_such e.kind (Silent rest) counted good.form (λ is. cc) (λ is. cc) (λ is. cc))
total_in dim e t (Shown d parts rest) counted good = (header_parts dim e.kind d parts rest good.parts.1 counted good.form).total t

pub total_put : (dim : ℕ) (e : Element) (t : ℕ) → is_counted (class_of e.kind) ≡ true → IsWellFormed dim e → total_of (body_totalled t e.body) ≡ t
total_put dim e t counted good = total_in dim e t e.body counted good

-- its own total is one word
pub total_small : (dim : ℕ) (e : Element) → is_counted (class_of e.kind) ≡ true → IsWellFormed dim e → total_of e.body < 65536
total_small dim e counted good = (by_body dim e false 0 e.body (omega arith) counted good).0
