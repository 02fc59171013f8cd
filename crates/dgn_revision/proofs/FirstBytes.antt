-- Another level, and a deletion taken back, are one byte of the element, and leave it well formed.
use Rattle.std.proofs.Common.{◌≡◌, ℕ, ◌+◌, ◌/◌, ◌<◌, ◌≤◌, Bool, true, false, [], ◌∷◌, ◌++◌, length, refl, sym, arith}
use Rattle.std.specs.Prelude.{◌==◌, ◌&&◌}
use Rattle.std.proofs.lemmas.Bool.Decides.{nat_tests}
use Rattle.dgn_words.specs.Numbers.{word_bytes}
use Rattle.patch_bytes.specs.Puts.{write}
use Rattle.dgn_drawing.specs.Element.{Body, Silent, Shown, Element}
use Rattle.dgn_drawing.specs.Spelling.{bit, first_byte, second_byte, body_bytes, spell, size_of}
use Rattle.dgn_drawing.specs.WellFormed.{IsWellFormed, HasAttributesInPlace}
use Rattle.dgn_drawing.specs.Rows.{row_of}
use Rattle.dgn_drawing.proofs.Pieces.{lay-over}
use Rattle.dgn_revision.specs.Revising.{relevelled, unmarked}
use Rattle.dgn_revision.specs.RevisionPuts.{level_puts, unmark_puts}
use Rattle.dgn_revision.specs.Laws.{LevelsAreOneByte, UnmarkedIsOneByte}

-- two bytes of which the second isn't FF are no mark of the end
pub second_differs : (x y : ℕ) → y < 255 → (x == 255 && y == 255) ≡ false
second_differs x y small = grind (arith, nat_tests)

-- byte 0 of the spelling is put anew
spell-relevelled : (level : ℕ) (e : Element) → spell (relevelled level e) ≡ write (spell e) (level_puts level e)
unfolding spell
spell-relevelled level e =
    sym (lay-over [] (first_byte e ∷ []) (second_byte e ∷ (word_bytes (length (body_bytes e.body) / 2) ++ body_bytes e.body))
    (first_byte (relevelled level e) ∷ []) 0 refl refl)

-- an element has at least four bytes
pub four_bytes : (e : Element) → 4 ≤ size_of e
unfolding spell
four_bytes e = omega arith

-- attribute data stay in their place
attributes-relevelled : (level : ℕ) (e : Element) (body : Body) → HasAttributesInPlace e body → HasAttributesInPlace (relevelled level e) body
unfolding spell
attributes-relevelled level e (Silent rest) held = tt
attributes-relevelled level e (Shown d parts rest) held = held

-- the second byte of an element that isn't marked deleted is below 128
live_small : (kind : ℕ) (deleted : Bool) → kind < 128 → deleted ≡ false → kind + bit 128 deleted < 255
live_small kind true small live = absurd (cc)
live_small kind false small live = omega (arith, small)

relevelled_good : (dim level : ℕ) (e : Element) → level ≤ 63 → IsWellFormed dim e → e.deleted ≡ false → IsWellFormed dim (relevelled level e)
unfolding spell
relevelled_good dim level e few good live = record {
  level = omega (arith, few);
  kind = good.kind;
  form = good.form;
  parts = good.parts;
  even = good.even;
  small = good.small;
  no_mark = second_differs (first_byte (relevelled level e)) (second_byte e) (live_small e.kind e.deleted good.kind live);
  attributes = attributes-relevelled level e e.body good.attributes;
}

row-relevelled : (level : ℕ) (e : Element) → row_of (relevelled level e) ≡ row_of e
unfolding spell
row-relevelled level e = refl

-- the law on levels
pub level_put : LevelsAreOneByte
level_put dim level e few good live = record {
  spelled = spell-relevelled level e;
  rises = let long = four_bytes e in (omega arith, omega arith);
  over = refl;
  good = relevelled_good dim level e few good live;
  row = row-relevelled level e;
}

-- byte 1 of the spelling is put anew
spell-unmarked : (e : Element) → spell (unmarked e) ≡ write (spell e) (unmark_puts e)
unfolding spell
spell-unmarked e =
    sym (lay-over (first_byte e ∷ []) (second_byte e ∷ []) (word_bytes (length (body_bytes e.body) / 2) ++ body_bytes e.body)
    (second_byte (unmarked e) ∷ []) 1 refl refl)

attributes-unmarked : (e : Element) (body : Body) → HasAttributesInPlace e body → HasAttributesInPlace (unmarked e) body
unfolding spell
attributes-unmarked e (Silent rest) held = tt
attributes-unmarked e (Shown d parts rest) held = held

unmarked_good : (dim : ℕ) (e : Element) → IsWellFormed dim e → IsWellFormed dim (unmarked e)
unfolding spell
unmarked_good dim e good = record {
  level = good.level;
  kind = good.kind;
  form = good.form;
  parts = good.parts;
  even = good.even;
  small = good.small;
  no_mark = second_differs (first_byte e) (second_byte (unmarked e)) (let kind = good.kind in omega arith);
  attributes = attributes-unmarked e e.body good.attributes;
}

row-unmarked : (e : Element) → row_of (unmarked e) ≡ row_of e
unfolding spell
row-unmarked e = refl

-- the law on deletions taken back
pub unmark_put : UnmarkedIsOneByte
unmark_put dim e good = record {
  spelled = spell-unmarked e;
  rises = let long = four_bytes e in (omega arith, omega arith);
  over = refl;
  good = unmarked_good dim e good;
  row = row-unmarked e;
}
