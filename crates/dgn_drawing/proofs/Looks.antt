-- A change of the look is two bytes of the element, and leaves it well formed.
use Rattle.std.proofs.Common.{◌≡◌, ℕ, ◌+◌, ◌-◌, ◌*◌, ◌/◌, ◌<◌, ◌≤◌, List, ◌∷◌, ◌++◌, length, Option, Some, None, refl, sym, ap, subst, ◌∙◌}
use Rattle.std.proofs.Common.{append_assoc, arith, length-append}
use Rattle.std.specs.Prelude.{unwrap_or, IfSome}
use Rattle.std.specs.List.{flat_map}
use Rattle.dgn_words.specs.Numbers.{word_bytes, range_long_bytes, put}
use Rattle.patch_bytes.specs.Puts.{lay}
use Rattle.dgn_drawing.specs.Values.{LookChange, IsLook}
use Rattle.dgn_drawing.specs.Element.{Display, Parts, Body, Silent, Shown, Element}
use Rattle.dgn_drawing.specs.Spelling.{first_byte, second_byte, display_bytes, parts_bytes, body_bytes, spell, size_of}
use Rattle.dgn_drawing.specs.WellFormed.{IsDisplay, HasBody, IsWellFormed}
use Rattle.dgn_drawing.specs.Laws.{IsLookPut, LooksAreTwoBytes}
use Rattle.dgn_drawing.specs.declared.row.Row.{Row}
use Rattle.dgn_drawing.specs.Rows.{total_of, row_of}
use Rattle.dgn_drawing.specs.Changes.{look_changed, recoloured_body, recolour, look_bytes}
use Rattle.dgn_drawing.proofs.Pieces.{lay-over}
use Rattle.dgn_drawing.proofs.Displays.{length-display}

-- what is given or was there before is in its range
chosen : (o : Option ℕ) (d n : ℕ) → IfSome o (λ x. x < n) → d < n → unwrap_or o d < n
chosen None d n fits small = small
chosen (Some x) d n fits small = fits

-- the display part with another look holds its values
look_good : (change : LookChange) (d : Display) → IsLook change → IsDisplay d → IsDisplay (look_changed change d)
look_good change d fits good = record {
  low = good.low;
  high = good.high;
  group = good.group;
  index = good.index;
  properties = good.properties;
  style = chosen change.style d.style 8 fits.style good.style;
  weight = chosen change.weight d.weight 32 fits.weight good.weight;
  color = chosen change.color d.color 256 fits.color good.color;
}

-- the bytes of the display part before its look
before_look : Display → List ℕ
before_look d =
    flat_map range_long_bytes d.low ++ (flat_map range_long_bytes d.high
    ++ (word_bytes d.group ++ (word_bytes d.index ++ word_bytes d.properties)))

display_bytes-split : (d : Display) → display_bytes d ≡ before_look d ++ look_bytes d
unfolding display_bytes before_look
display_bytes-split d = simp append_assoc

length-before_look : (d : Display) → IsDisplay d → length (before_look d) ≡ 30
length-before_look d good =
    omega (arith, length-append (before_look d) (look_bytes d), ap (length {A = ℕ}) (display_bytes-split d), length-display d good)

-- the element with this body
abbrev pub with_body : Element → Body → Element
with_body e b = record e { body = b }

-- the bytes of a shown element before its look, if so many words follow
front : Element → ℕ → Display → List ℕ
front e words d = first_byte e ∷ second_byte e ∷ (word_bytes words ++ before_look d)

spell-shown : (e : Element) (d : Display) (parts : Parts) (rest : List ℕ) (words : ℕ) → length (body_bytes (Shown d parts rest)) / 2 ≡ words
    → spell (with_body e (Shown d parts rest)) ≡ front e words d ++ (look_bytes d ++ (parts_bytes parts ++ rest))
unfolding spell body_bytes front
spell-shown e d parts rest words is = rw (is, display_bytes-split d) (simp append_assoc)

length-front : (e : Element) (words : ℕ) (d : Display) → IsDisplay d → length (front e words d) ≡ 34
unfolding front
length-front e words d good = omega (arith, length-append (word_bytes words) (before_look d), length-before_look d good)

-- the body keeps its length
same_body_length : (change : LookChange) (d : Display) (parts : Parts) (rest : List ℕ) → IsLook change → IsDisplay d
    → length (body_bytes (Shown (look_changed change d) parts rest)) ≡ length (body_bytes (Shown d parts rest))
unfolding body_bytes
same_body_length change d parts rest fits good =
    omega (arith, length-append {A = ℕ}, length-display d good, length-display (look_changed change d) (look_good change d fits good))

-- another look is two bytes at 34
pub spell-look : (change : LookChange) (e : Element) (d : Display) (parts : Parts) (rest : List ℕ) → IsLook change → IsDisplay d
    → spell (recolour change (with_body e (Shown d parts rest))) ≡ put (spell (with_body e (Shown d parts rest))) 34 (look_bytes (look_changed change d))
unfolding front spell before_look lay
spell-look change e d parts rest fits good =
    let words : ℕ = length (body_bytes (Shown d parts rest)) / 2 in
    let same : length (body_bytes (Shown (look_changed change d) parts rest)) / 2 ≡ words = ap (λ n. n / 2) (same_body_length change d parts rest fits good) in
    let old = spell-shown e d parts rest words refl in
    let new = spell-shown e (look_changed change d) parts rest words same in
    let over = lay-over (front e words d) (look_bytes d) (parts_bytes parts ++ rest) (look_bytes (look_changed change d)) 34 (length-front e words d good)
    refl in
    new ∙ sym over ∙ ap (λ b. put b 34 (look_bytes (look_changed change d))) (sym old)

-- the size stays
size-shown : (change : LookChange) (e : Element) (d : Display) (parts : Parts) (rest : List ℕ) → IsLook change → IsDisplay d
    → size_of (recolour change (with_body e (Shown d parts rest))) ≡ size_of (with_body e (Shown d parts rest))
unfolding spell
size-shown change e d parts rest fits good = omega (arith, same_body_length change d parts rest fits good)

good_shown : (dim : ℕ) (change : LookChange) (e : Element) (d : Display) (parts : Parts) (rest : List ℕ) → IsLook change
    → IsWellFormed dim (with_body e (Shown d parts rest)) → IsWellFormed dim (recolour change (with_body e (Shown d parts rest)))
unfolding spell
good_shown dim change e d parts rest fits good =
    let size = size-shown change e d parts rest fits good.parts.0 in
    let old : Element = with_body e (Shown d parts rest) in
    record {
      level = good.level;
      kind = good.kind;
      form = good.form;
      parts = (look_good change d fits good.parts.0, good.parts.1, good.parts.2);
      even = rw size good.even;
      small = rw size good.small;
      no_mark = good.no_mark;
      attributes = λ says. let held = good.attributes says in
          (subst (λ n. n - length rest ≤ 32 + 2 * d.index) (sym size) held.0, subst (λ n. 32 + 2 * d.index ≤ n) (sym size) held.1);
    }

by_body : (dim : ℕ) (change : LookChange) (e : Element) (b : Body) → IsLook change → IsWellFormed dim (with_body e b)
    → IsWellFormed dim (recolour change (with_body e b)) × (size_of (recolour change (with_body e b)) ≡ size_of (with_body e b))
by_body dim change e (Silent rest) fits good = (good, refl)
by_body dim change e (Shown d parts rest) fits good = (good_shown dim change e d parts rest fits good, size-shown change e d parts rest fits good.parts.0)

-- a well formed element with another look is well formed, and as large
pub recolour_good : (dim : ℕ) (change : LookChange) (e : Element) → IsLook change → IsWellFormed dim e → IsWellFormed dim (recolour change e)
recolour_good dim change e fits good = (by_body dim change e e.body fits good).0

pub size-recolour : (dim : ℕ) (change : LookChange) (e : Element) → IsLook change → IsWellFormed dim e → size_of (recolour change e) ≡ size_of e
size-recolour dim change e fits good = (by_body dim change e e.body fits good).1

-- another look keeps what the nesting looks at
total_same : (change : LookChange) (b : Body) → total_of (recoloured_body change b) ≡ total_of b
total_same change (Silent rest) = refl
total_same change (Shown display parts rest) = refl

row_with : ℕ → Element → ℕ → Row
row_with n x total = record { size = n; kind = x.kind; cbit = x.cbit; total = total }

pub row-recolour : (dim : ℕ) (change : LookChange) (e : Element) → IsLook change → IsWellFormed dim e → row_of (recolour change e) ≡ row_of e
unfolding row_with
row-recolour dim change e fits good =
    ap (λ (n : ℕ). row_with n e (total_of (recolour change e).body)) (size-recolour dim change e fits good)
    ∙ ap (λ (n : ℕ). row_with (size_of e) e n) (total_same change e.body)

-- a record with a body of which so much is known
look_of : (dim : ℕ) (change : LookChange) (e : Element) (d : Display) (parts : Parts) (rest : List ℕ) (b : Body) → IsLook change
    → IsWellFormed dim (with_body e b) → b ≡ Shown d parts rest → IsLookPut dim change (with_body e b) d
look_of dim change e d parts rest b fits good is =
    let held : HasBody dim (Shown d parts rest) = subst (HasBody dim) is good.parts in
    record {
      spelled = subst (λ (x : Body). spell (recolour change (with_body e x)) ≡ put (spell (with_body e x)) 34 (look_bytes (look_changed change d))) (sym is)
          (spell-look change e d parts rest fits held.0);
      good = recolour_good dim change (with_body e b) fits good;
      size = size-recolour dim change (with_body e b) fits good;
      row = row-recolour dim change (with_body e b) fits good;
    }

pub looks_put : LooksAreTwoBytes
looks_put dim change e d parts rest fits good is = look_of dim change e d parts rest e.body fits good is
