-- A lock is one byte of the element, and leaves it well formed.
use Rattle.std.proofs.Common.{◌≡◌, ℕ, ◌+◌, ◌*◌, ◌/◌, ◌%◌, ◌<◌, Bool, true, false, List, [], ◌∷◌, ◌++◌, length, refl, sym, ap, ◌∙◌}
use Rattle.std.proofs.Common.{append_assoc, arith, length-append}
use Rattle.std.specs.Prelude.{◌==◌}
use Rattle.std.specs.List.{flat_map}
use Rattle.dgn_words.specs.Numbers.{word_bytes, range_long_bytes}
use Rattle.patch_bytes.specs.Puts.{Put}
use Rattle.dgn_drawing.specs.Element.{Display, Parts, Body, Silent, Shown, Element}
use Rattle.dgn_drawing.specs.Spelling.{display_bytes, parts_bytes, body_bytes}
use Rattle.dgn_drawing.specs.WellFormed.{IsDisplay, IsWellFormed, says_attributes}
use Rattle.dgn_drawing.proofs.Displays.{length-corner}
use Rattle.dgn_drawing.proofs.Looks.{with_body}
use Rattle.dgn_revision.specs.Revising.{lock_set, locked_body}
use Rattle.dgn_revision.specs.RevisionPuts.{lock_puts, lock_fields}
use Rattle.dgn_revision.specs.Laws.{IsRevised, LocksAreOneByte}
use Rattle.dgn_revision.proofs.PiecesWritten.{writes_one, writes_before, writes_behind, writes_as, Writes}
use Rattle.dgn_revision.proofs.RevisedBodies.{TurnsBody, revised_body}

-- the lock is in the high byte alone, and not the bit that says that attribute data follow
lock_low : (lock : Bool) (p : ℕ) → lock_set lock p % 256 ≡ p % 256
lock_low true p = omega arith
lock_low false p = omega arith

lock_small : (lock : Bool) (p : ℕ) → p < 65536 → lock_set lock p < 65536
lock_small true p small = omega arith
lock_small false p small = omega arith

lock_says : (lock : Bool) (p : ℕ) → lock_set lock p / 2048 ≡ p / 2048
lock_says true p = omega arith
lock_says false p = omega arith

high_byte : (v : ℕ) → v < 65536 → v / 256 % 256 ≡ v / 256
high_byte v small = omega arith

-- the display part before the high byte of its properties, and behind it
before_lock : Display → ℕ → List ℕ
before_lock d low =
    flat_map range_long_bytes d.low ++ (flat_map range_long_bytes d.high ++ (word_bytes d.group ++ (word_bytes d.index ++ (low ∷ []))))

abbrev look : Display → List ℕ
look d = (d.style + 8 * d.weight) ∷ d.color ∷ []

length-before_lock : (d : Display) (low : ℕ) → IsDisplay d → length (before_lock d low) ≡ 29
unfolding before_lock
length-before_lock d low good =
    omega (arith, length-append {A = ℕ}, length-corner d.low, length-corner d.high, good.low.long, good.high.long)

abbrev with_lock : Bool → Display → Display
with_lock lock d = record d { properties = lock_set lock d.properties }

bytes-lock : (d : Display) (parts : Parts) (rest : List ℕ) (low high : ℕ) → d.properties % 256 ≡ low → d.properties / 256 % 256 ≡ high
    → before_lock d low ++ ((high ∷ []) ++ (look d ++ (parts_bytes parts ++ rest))) ≡ body_bytes (Shown d parts rest)
unfolding before_lock body_bytes display_bytes
bytes-lock d parts rest low high one two = rw (← one, ← two) (simp append_assoc)

locked_display : (lock : Bool) (d : Display) → IsDisplay d → IsDisplay (with_lock lock d)
locked_display lock d good = record {
  low = good.low;
  high = good.high;
  group = good.group;
  index = good.index;
  properties = lock_small lock d.properties good.properties;
  style = good.style;
  weight = good.weight;
  color = good.color;
}

module _ (dim : ℕ) (lock : Bool) (e : Element) (d : Display) (parts : Parts) (rest : List ℕ) (good : IsWellFormed dim (with_body e (Shown d parts rest))) where
  abbrev put : List Put
  put = lock_puts lock (Shown d parts rest)

  lock_written : Writes 4 (body_bytes (Shown d parts rest)) put (body_bytes (Shown (with_lock lock d) parts rest))
  unfolding before_lock
  lock_written =
      let low : ℕ = d.properties % 256 in
      let new : ℕ = lock_set lock d.properties / 256 in
      let behind : List ℕ = look d ++ (parts_bytes parts ++ rest) in
      writes_as (bytes-lock d parts rest low (d.properties / 256 % 256) refl refl)
      (bytes-lock (with_lock lock d) parts rest low new (lock_low lock d.properties) (high_byte (lock_set lock d.properties)
      (lock_small lock d.properties good.parts.0.properties)))
      (writes_behind 4 33 (before_lock d low) ((d.properties / 256 % 256 ∷ []) ++ behind) ((new ∷ []) ++ behind) put
      (omega (arith, length-before_lock d low good.parts.0))
      (writes_before 33 (d.properties / 256 % 256 ∷ []) (new ∷ []) behind put (writes_one 33 (d.properties / 256 % 256 ∷ []) (new ∷ []) refl)))

  says_same : says_attributes (lock_set lock d.properties) ≡ says_attributes d.properties
  says_same = ap (λ (n : ℕ). n % 2 == 1) (lock_says lock d.properties)

  lock_turned : TurnsBody dim e (Shown d parts rest) (Shown (with_lock lock d) parts rest) put (record { at = 33; len = 1 } ∷ [])
  lock_turned = record {
    wrote = lock_written;
    over = refl;
    parts = (locked_display lock d good.parts.0, good.parts.1, good.parts.2);
    form = refl;
    total = refl;
    attributes = λ size. λ says. let held = good.attributes (sym says_same ∙ says) in
        (rw size held.0, rw size held.1);
  }

by_body : (dim : ℕ) (lock : Bool) (e : Element) (b : Body) → IsWellFormed dim (with_body e b)
    → IsRevised dim (with_body e b) (with_body e (locked_body lock b)) (lock_puts lock b) (lock_fields b)
by_body dim lock e (Silent rest) good = record {
  spelled = refl;
  rises = omega arith;
  over = refl;
  good = good;
  row = refl;
}
by_body dim lock e (Shown d parts rest) good =
    revised_body dim e (Shown d parts rest) (Shown (with_lock lock d) parts rest) (lock_puts lock (Shown d parts rest)) (record { at = 33; len = 1 } ∷ []) good
    (lock_turned dim lock e d parts rest good)

-- the law on locks
pub lock_put : LocksAreOneByte
lock_put dim lock e good = by_body dim lock e e.body good
