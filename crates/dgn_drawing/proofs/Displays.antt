-- The display part, from bytes to the record and back.
use Rattle.std.proofs.Common.{◌≡◌, ℕ, ◌+◌, ◌*◌, ◌/◌, ◌%◌, ◌<◌, ◌≤◌, List, [], ◌∷◌, length, get_or, refl, sym, ap, arith, length-append}
use Rattle.std.specs.Prelude.{ℤ}
use Rattle.std.specs.List.{AllByRecursion, flat_map}
use Rattle.dgn_words.specs.Numbers.{range_long_at, range_long_bytes, word_bytes}
use Rattle.elem_head.specs.Head.{style_of, weight_of, properties_of}
use Rattle.range_code.specs.Ranges.{corner_at}
use Rattle.dgn_drawing.specs.Element.{Display}
use Rattle.dgn_drawing.specs.Spelling.{display_bytes}
use Rattle.dgn_drawing.specs.WellFormed.{IsBytes, IsCoordinate, IsPoint, IsDisplay}
use Rattle.dgn_drawing.specs.Reading.{display_at, group_of, index_of}
use Rattle.dgn_drawing.proofs.BytesAt.{Has, has_then, has_first, has_none, has_byte, has_same, index_is}
use Rattle.dgn_drawing.proofs.Fields.{byte_at, has_word, word_is, word_below, has_range_long, range_long_is, range_long_on_plane}

-- a corner
has_corner : (b : List ℕ) (p q : ℕ) → IsBytes b → q ≡ p + 12 → q ≤ length b → Has b p (flat_map range_long_bytes (corner_at b p)) q
has_corner b p q bytes at within =
    has_then (has_range_long b p (p + 4) bytes refl (omega arith))
    (has_then (has_range_long b (p + 4) (p + 8) bytes (omega arith) (omega arith))
    (has_then (has_range_long b (p + 8) q bytes (omega arith) within) has_none))

corner_from : {b : List ℕ} (p q : ℕ) (v : List ℤ) → length v ≡ 3 → AllByRecursion IsCoordinate v → Has b p (flat_map range_long_bytes v) q → corner_at b p ≡ v
corner_from p q [] long on h = absurd (omega arith)
corner_from p q (x ∷ []) long on h = absurd (omega arith)
corner_from p q (x ∷ y ∷ []) long on h = absurd (omega arith)
corner_from p q (x ∷ y ∷ z ∷ w ∷ more) long on h = absurd (omega arith)
corner_from {b} p q (x ∷ y ∷ z ∷ []) long on h =
    let one = has_first {b = b} {x = range_long_bytes x} (p + 4) refl h in
    let two = has_first {b = b} {x = range_long_bytes y} (p + 8) (omega arith) one.1 in
    let three = has_first {b = b} {x = range_long_bytes z} (p + 12) (omega arith) two.1 in
    let e1 : range_long_at b p ≡ x = range_long_is one.0 on.0 in
    let e2 : range_long_at b (p + 4) ≡ y = range_long_is two.0 on.1.0 in
    let e3 : range_long_at b (p + 8) ≡ z = range_long_is three.0 on.1.1.0 in
    cc

pub length-corner : (v : List ℤ) → length (flat_map range_long_bytes v) ≡ 4 * length v
length-corner [] = refl
length-corner (x ∷ xs) = omega (arith, length-corner xs)

corner_on_plane : (b : List ℕ) (p : ℕ) → IsBytes b → IsPoint 3 (corner_at b p)
corner_on_plane b p bytes = record {
  long = refl;
  on_plane = (range_long_on_plane b p bytes, (range_long_on_plane b (p + 4) bytes, (range_long_on_plane b (p + 8) bytes, tt)));
}

-- style and weight in one byte
look_byte : (x : ℕ) → x < 256 → x % 8 + 8 * (x / 8 % 32) ≡ x
look_byte x small = omega arith

pub length-display : (d : Display) → IsDisplay d → length (display_bytes d) ≡ 32
unfolding display_bytes
length-display d good =
    omega (arith, length-append {A = ℕ}, length-corner d.low, length-corner d.high, good.low.long, good.high.long)

-- what stands there spells the record that is read there
pub has_display : (b : List ℕ) → IsBytes b → 36 ≤ length b → Has b 4 (display_bytes (display_at b)) 36
unfolding display_bytes display_at
has_display b bytes within =
    has_then (has_corner b 4 16 bytes refl (omega arith))
    (has_then (has_corner b 16 28 bytes refl (omega arith))
    (has_then (has_word b 28 30 bytes refl (omega arith))
    (has_then (has_word b 30 32 bytes refl (omega arith))
    (has_then (has_word b 32 34 bytes refl (omega arith))
    (has_then (has_same (ap (λ (x : ℕ). x ∷ []) (sym (look_byte (get_or b 34 0) (byte_at b 34 bytes)))) (has_byte b 34 35 refl (omega arith)))
    (has_byte b 35 36 refl within))))))

pub display_at_good : (b : List ℕ) → IsBytes b → IsDisplay (display_at b)
unfolding display_at
display_at_good b bytes = record {
  low = corner_on_plane b 4 bytes;
  high = corner_on_plane b 16 bytes;
  group = word_below b 28 bytes;
  index = word_below b 30 bytes;
  properties = word_below b 32 bytes;
  style = omega arith;
  weight = omega arith;
  color = byte_at b 35 bytes;
}

abbrev display_with : List ℤ → List ℤ → ℕ → ℕ → ℕ → ℕ → ℕ → ℕ → Display
display_with low high group index properties style weight color =
    record { low = low; high = high; group = group; index = index; properties = properties; style = style; weight = weight; color = color }

-- display parts with the same fields are the same
same_displays : (x y : Display) → x.low ≡ y.low → x.high ≡ y.high → x.group ≡ y.group → x.index ≡ y.index → x.properties ≡ y.properties → x.style ≡ y.style
    → x.weight ≡ y.weight → x.color ≡ y.color → x ≡ y
same_displays x y low high group index properties style weight color =
    let e : display_with x.low x.high x.group x.index x.properties x.style x.weight x.color
    ≡ display_with y.low y.high y.group y.index y.properties y.style y.weight y.color = cc in e

-- where a record is spelled, it is read
pub display_is : {b : List ℕ} (d : Display) → IsDisplay d → Has b 4 (display_bytes d) 36 → display_at b ≡ d
unfolding display_bytes display_at
display_is {b} d good h =
    let low = has_first {b = b} {x = flat_map range_long_bytes d.low} 16 (omega (arith, length-corner d.low, good.low.long)) h in
    let high = has_first {b = b} {x = flat_map range_long_bytes d.high} 28 (omega (arith, length-corner d.high, good.high.long)) low.1 in
    let group = has_first {b = b} {x = word_bytes d.group} 30 refl high.1 in
    let index = has_first {b = b} {x = word_bytes d.index} 32 refl group.1 in
    let properties = has_first {b = b} {x = word_bytes d.properties} 34 refl index.1 in
    let e1 : corner_at b 4 ≡ d.low = corner_from 4 16 d.low good.low.long good.low.on_plane low.0 in
    let e2 : corner_at b 16 ≡ d.high = corner_from 16 28 d.high good.high.long good.high.on_plane high.0 in
    let e3 : group_of b ≡ d.group = word_is group.0 good.group in
    let e4 : index_of b ≡ d.index = word_is index.0 good.index in
    let e5 : properties_of b ≡ d.properties = word_is properties.0 good.properties in
    let look : get_or b 34 0 ≡ d.style + 8 * d.weight = index_is 0 34 refl (omega arith) properties.1 in
    let color : get_or b 35 0 ≡ d.color = index_is 1 35 refl (omega arith) properties.1 in
    let style_small = good.style in
    let weight_small = good.weight in
    let e6 : style_of b ≡ d.style = omega arith in
    let e7 : weight_of b ≡ d.weight = omega arith in
    same_displays (display_at b) d e1 e2 e3 e4 e5 e6 e7 color
