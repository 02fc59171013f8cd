-- A mark is one byte of the element, and leaves it well formed where its type isn't 127.
use Rattle.std.proofs.Common.{◌≡◌, ℕ, ◌+◌, ◌/◌, ◌<◌, [], ◌∷◌, ◌++◌, length, refl, sym, false, arith}
use Rattle.std.specs.Prelude.{◌==◌, ◌&&◌}
use Rattle.std.proofs.lemmas.Bool.Decides.{nat_tests}
use Rattle.dgn_words.specs.Numbers.{word_bytes}
use Rattle.patch_bytes.specs.Puts.{write}
use Rattle.dgn_drawing.specs.Element.{Body, Silent, Shown, Element}
use Rattle.dgn_drawing.specs.Spelling.{first_byte, second_byte, body_bytes, spell}
use Rattle.dgn_drawing.specs.WellFormed.{IsWellFormed, HasAttributesInPlace}
use Rattle.dgn_drawing.specs.Rows.{row_of}
use Rattle.dgn_drawing.specs.Changes.{mark}
use Rattle.dgn_drawing.specs.Laws.{MarksAreOneByte}
use Rattle.dgn_drawing.proofs.Pieces.{lay-over}

-- byte 1 of the spelling is put anew
pub spell-mark : (e : Element) → spell (mark e) ≡ write (spell e) (record { at = 1; bytes = second_byte (mark e) ∷ [] } ∷ [])
unfolding spell
spell-mark e =
    sym (lay-over (first_byte e ∷ []) (second_byte e ∷ []) (word_bytes (length (body_bytes e.body) / 2) ++ body_bytes e.body) (second_byte (mark e) ∷ [])
    1 refl refl)

-- two bytes of which the second isn't FF are no mark of the end
second_differs : (x y : ℕ) → y < 255 → (x == 255 && y == 255) ≡ false
second_differs x y small = grind (arith, nat_tests)

-- attribute data stay in their place
attributes-mark : (e : Element) (body : Body) → HasAttributesInPlace e body → HasAttributesInPlace (mark e) body
unfolding spell
attributes-mark e (Silent rest) held = tt
attributes-mark e (Shown d parts rest) held = held

-- a marked record is well formed: no type but 127 makes byte 1 FF
pub mark_good : (dim : ℕ) (e : Element) → IsWellFormed dim e → ¬ (e.kind ≡ 127) → IsWellFormed dim (mark e)
unfolding spell
mark_good dim e good other =
    let kind = good.kind in
    let small : e.kind + 128 < 255 = omega (arith, other) in
    record {
      level = good.level;
      kind = good.kind;
      form = good.form;
      parts = good.parts;
      even = good.even;
      small = good.small;
      no_mark = second_differs (first_byte e) (e.kind + 128) small;
      attributes = attributes-mark e e.body good.attributes;
    }

-- a mark keeps what the nesting looks at
pub row-mark : (e : Element) → row_of (mark e) ≡ row_of e
unfolding spell
row-mark e = refl

-- the law on marks
pub mark_put : MarksAreOneByte
mark_put dim e good other = record { spelled = spell-mark e; good = mark_good dim e good other; row = row-mark e }
