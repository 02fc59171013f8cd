-- Bit C is in one byte of the element, which stays well formed without it.
use Rattle.std.proofs.Common.{◌≡◌, ℕ, ◌+◌, ◌/◌, ◌<◌, Bool, true, false, [], ◌∷◌, ◌++◌, length, refl, sym, arith}
use Rattle.std.specs.Prelude.{◌==◌, ◌&&◌}
use Rattle.std.proofs.lemmas.Bool.Decides.{nat_tests}
use Rattle.dgn_words.specs.Numbers.{word_bytes}
use Rattle.patch_bytes.specs.Puts.{write}
use Rattle.dgn_drawing.specs.Element.{Body, Silent, Shown, Element}
use Rattle.dgn_drawing.specs.Spelling.{bit, first_byte, second_byte, body_bytes, spell, size_of}
use Rattle.dgn_drawing.specs.WellFormed.{IsWellFormed, HasAttributesInPlace}
use Rattle.dgn_drawing.specs.Rows.{row_of, total_of}
use Rattle.dgn_drawing.specs.Changes.{freed}
use Rattle.dgn_drawing.specs.Laws.{FreedIsOneByte}
use Rattle.dgn_drawing.proofs.Pieces.{lay-over}

-- byte 0 of the spelling is put anew
pub spell-freed : (e : Element) → spell (freed e) ≡ write (spell e) (record { at = 0; bytes = first_byte (freed e) ∷ [] } ∷ [])
unfolding spell
spell-freed e =
    sym (lay-over [] (first_byte e ∷ []) (second_byte e ∷ (word_bytes (length (body_bytes e.body) / 2) ++ body_bytes e.body)) (first_byte (freed e) ∷ [])
    0 refl refl)

-- two bytes of which the first isn't FF are no mark of the end
first_differs : (x y : ℕ) → x < 255 → (x == 255 && y == 255) ≡ false
first_differs x y small = grind (arith, nat_tests)

-- the first byte without bit C is below 128
first_small : (level : ℕ) (bit6 : Bool) → level < 64 → level + bit 64 bit6 + bit 128 false < 255
first_small level true small = omega (arith, small)
first_small level false small = omega (arith, small)

-- attribute data stay in their place
attributes-freed : (e : Element) (body : Body) → HasAttributesInPlace e body → HasAttributesInPlace (freed e) body
unfolding spell
attributes-freed e (Silent rest) held = tt
attributes-freed e (Shown d parts rest) held = held

-- a freed record is well formed
pub freed_good : (dim : ℕ) (e : Element) → IsWellFormed dim e → IsWellFormed dim (freed e)
unfolding spell
freed_good dim e good = record {
  level = good.level;
  kind = good.kind;
  form = good.form;
  parts = good.parts;
  even = good.even;
  small = good.small;
  no_mark = first_differs (first_byte (freed e)) (second_byte e) (first_small e.level e.bit6 good.level);
  attributes = attributes-freed e e.body good.attributes;
}

-- a freed record nests as one without bit C
pub row-freed : (e : Element) → row_of (freed e) ≡ record { size = size_of e; kind = e.kind; cbit = false; total = total_of e.body }
unfolding spell
row-freed e = refl

-- the law on freed records
pub freed_put : FreedIsOneByte
freed_put dim e good = record { spelled = spell-freed e; good = freed_good dim e good; row = row-freed e }
