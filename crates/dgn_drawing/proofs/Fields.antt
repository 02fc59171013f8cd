-- Words, longs and range numbers at their places, alone, in points and in lists of points: what stands
-- there spells the number that is read there, and where a number is spelled it is read.
use Rattle.std.proofs.Common.{◌≡◌, ℕ, zero, suc, ◌+◌, ◌*◌, ◌/◌, ◌%◌, ◌<◌, ◌≤◌, ◌^◌, List, [], ◌∷◌, length, get_or, refl, sym, ap, ◌∙◌, inl, inr, arith}
use Rattle.std.proofs.Common.{length-append}
use Rattle.std.specs.Prelude.{ℤ, pos, ◌+ℤ◌, ◌-ℤ◌, unsigned_abs, FitsSigned}
use Rattle.std.specs.Int.{w32, cast_unsigned}
use Rattle.std.specs.List.{AllByRecursion, flat_map}
use Rattle.std.proofs.lemmas.Int.{ints}
use Rattle.std.proofs.lemmas.Bool.{cases_lt}
use Rattle.std.proofs.lemmas.Bool.Decides.{nat_tests}
use Rattle.std.proofs.lemmas.List.{get_or_past}
use Rattle.dgn_words.specs.Numbers.{word_at, long_word_at, signed, long_at, longs_at, range_long_at, word_bytes, long_word_bytes, long_bytes, range_long_bytes}
use Rattle.body_vertex.specs.Points.{points_at}
use Rattle.dgn_words.proofs.Rows.{length-longs_at}
use Rattle.dgn_drawing.specs.WellFormed.{IsBytes, IsCoordinate, IsPoint}
use Rattle.dgn_drawing.specs.Spelling.{point_bytes}
use Rattle.dgn_drawing.proofs.BytesAt.{Has, has_then, has_first, has_none, has_byte, has_same, has_at, index_is}

-- what stands at a place is a byte, also past the end
pub byte_at : (b : List ℕ) (p : ℕ) → IsBytes b → get_or b p 0 < 256
byte_at b p bytes =
    elim (cases_lt p (length b)) [
      | inl within ↦ bytes p 0 within
      | inr past ↦ rw (get_or_past b p 0 past) (omega arith)
    ]

-- a word
pub has_word : (b : List ℕ) (p q : ℕ) → IsBytes b → q ≡ p + 2 → q ≤ length b → Has b p (word_bytes (word_at b p)) q
has_word b p q bytes at within =
    let one = byte_at b p bytes in
    let two = byte_at b (p + 1) bytes in
    has_same (ap (λ (x : ℕ). x ∷ get_or b (p + 1) 0 ∷ []) (omega arith)
    ∙ ap (λ (y : ℕ). (get_or b p 0 + 256 * get_or b (p + 1) 0) % 256 ∷ y ∷ []) (omega arith))
    (has_then (has_byte b p (p + 1) refl (omega arith)) (has_byte b (p + 1) q (omega arith) within))

pub word_is : {b : List ℕ} {p q : ℕ} {v : ℕ} → Has b p (word_bytes v) q → v < 65536 → word_at b p ≡ v
word_is {b} {p} {q} {v} h small =
    let one : get_or b p 0 ≡ v % 256 = index_is 0 p (omega arith) (omega arith) h in
    let two : get_or b (p + 1) 0 ≡ v / 256 % 256 = index_is 1 (p + 1) refl (omega arith) h in
    omega arith

pub word_below : (b : List ℕ) (p : ℕ) → IsBytes b → word_at b p < 65536
word_below b p bytes = let one = byte_at b p bytes in let two = byte_at b (p + 1) bytes in omega arith

-- two words
pub has_words : (b : List ℕ) (p q : ℕ) → IsBytes b → q ≡ p + 4 → q ≤ length b → Has b p (long_word_bytes (long_word_at b p)) q
has_words b p q bytes at within =
    let one = word_below b p bytes in
    let two = word_below b (p + 2) bytes in
    let high : word_at b p ≡ long_word_at b p / 65536 = omega arith in
    let low : word_at b (p + 2) ≡ long_word_at b p % 65536 = omega arith in
    has_then (has_same (ap word_bytes high) (has_word b p (p + 2) bytes refl (omega arith)))
    (has_same (ap word_bytes low) (has_word b (p + 2) q bytes (omega arith) within))

pub words_are : {b : List ℕ} {p q : ℕ} {u : ℕ} → Has b p (long_word_bytes u) q → u < 2 ^ 32 → long_word_at b p ≡ u
words_are {b} {p} {q} {u} h small =
    let two = has_first (p + 2) refl h in
    let high : word_at b p ≡ u / 65536 = word_is two.0 (omega arith) in
    let low : word_at b (p + 2) ≡ u % 65536 = word_is two.1 (omega arith) in
    rw (high, low) (omega arith)

-- the numbers of 32 bits, there and back
pub coordinate_fits : (v : ℤ) → IsCoordinate v → FitsSigned w32 v
coordinate_fits v on = grind (arith, ints)

pub signed_back : (v : ℤ) → IsCoordinate v → signed (cast_unsigned w32 v) ≡ v
signed_back v on = let fits = coordinate_fits v on in grind (arith, ints, nat_tests)

pub unsigned_back : (u : ℕ) → u < 2 ^ 32 → cast_unsigned w32 (signed u) ≡ u
unsigned_back u small = grind (arith, ints, nat_tests)

pub signed_on_plane : (u : ℕ) → u < 2 ^ 32 → IsCoordinate (signed u)
signed_on_plane u small = grind (arith, ints, nat_tests)

pub unsigned_below : (v : ℤ) → IsCoordinate v → cast_unsigned w32 v < 2 ^ 32
unsigned_below v on = let fits = coordinate_fits v on in grind (arith, ints, nat_tests)

pub long_word_below : (b : List ℕ) (p : ℕ) → IsBytes b → long_word_at b p < 2 ^ 32
long_word_below b p bytes = let one = word_below b p bytes in let two = word_below b (p + 2) bytes in omega arith

pub offset_below : (v : ℤ) → IsCoordinate v → unsigned_abs (v +ℤ pos (2 ^ 31)) < 2 ^ 32
offset_below v on = grind (arith, ints)

pub range_back : (v : ℤ) → IsCoordinate v → pos (unsigned_abs (v +ℤ pos (2 ^ 31))) -ℤ pos (2 ^ 31) ≡ v
range_back v on = grind (arith, ints)

pub offset_back : (u : ℕ) → u < 2 ^ 32 → unsigned_abs ((pos u -ℤ pos (2 ^ 31)) +ℤ pos (2 ^ 31)) ≡ u
offset_back u small = grind (arith, ints)

pub range_on_plane : (u : ℕ) → u < 2 ^ 32 → IsCoordinate (pos u -ℤ pos (2 ^ 31))
range_on_plane u small = grind (arith, ints)

-- a long
pub has_long : (b : List ℕ) (p q : ℕ) → IsBytes b → q ≡ p + 4 → q ≤ length b → Has b p (long_bytes (long_at b p)) q
has_long b p q bytes at within =
    has_same (ap long_word_bytes (sym (unsigned_back _ (long_word_below b p bytes)))) (has_words b p q bytes at within)

pub long_is : {b : List ℕ} {p q : ℕ} {v : ℤ} → Has b p (long_bytes v) q → IsCoordinate v → long_at b p ≡ v
long_is {b} {p} {q} {v} h on =
    ap signed (words_are h (unsigned_below v on)) ∙ signed_back v on

pub long_on_plane : (b : List ℕ) (p : ℕ) → IsBytes b → IsCoordinate (long_at b p)
long_on_plane b p bytes = signed_on_plane _ (long_word_below b p bytes)

-- a range number
pub has_range_long : (b : List ℕ) (p q : ℕ) → IsBytes b → q ≡ p + 4 → q ≤ length b → Has b p (range_long_bytes (range_long_at b p)) q
has_range_long b p q bytes at within =
    has_same (ap long_word_bytes (sym (offset_back _ (long_word_below b p bytes)))) (has_words b p q bytes at within)

pub range_long_is : {b : List ℕ} {p q : ℕ} {v : ℤ} → Has b p (range_long_bytes v) q → IsCoordinate v → range_long_at b p ≡ v
range_long_is {b} {p} {q} {v} h on =
    ap (λ (u : ℕ). pos u -ℤ pos (2 ^ 31)) (words_are h (offset_below v on)) ∙ range_back v on

pub range_long_on_plane : (b : List ℕ) (p : ℕ) → IsBytes b → IsCoordinate (range_long_at b p)
range_long_on_plane b p bytes = range_on_plane _ (long_word_below b p bytes)

-- longs side by side
pub length-point_bytes : (v : List ℤ) → length (point_bytes v) ≡ 4 * length v
length-point_bytes [] = refl
length-point_bytes (x ∷ xs) = omega (arith, length-point_bytes xs)

pub has_longs : (n : ℕ) (b : List ℕ) (p q : ℕ) → IsBytes b → q ≡ p + 4 * n → q ≤ length b → Has b p (point_bytes (longs_at n b p)) q
has_longs zero b p q bytes at within = let e : p ≡ q = omega arith in has_at e has_none
has_longs (suc n) b p q bytes at within =
    has_then (has_long b p (p + 4) bytes refl (omega arith)) (has_longs n b (p + 4) q bytes (omega arith) within)

longs_from : (n : ℕ) {b : List ℕ} {p q : ℕ} (v : List ℤ) → length v ≡ n → AllByRecursion IsCoordinate v → Has b p (point_bytes v) q → longs_at n b p ≡ v
longs_from zero [] long on h = refl
longs_from zero (x ∷ xs) long on h = absurd (omega arith)
longs_from (suc n) [] long on h = absurd (omega arith)
longs_from (suc n) {b} {p} {q} (x ∷ xs) long on h =
    let two = has_first {b = b} {x = long_bytes x} (p + 4) refl h in
    let one : long_at b p ≡ x = long_is two.0 on.0 in
    let more : longs_at n b (p + 4) ≡ xs = longs_from n xs (omega arith) on.1 two.1 in
    cc

pub longs_are : (n : ℕ) {b : List ℕ} {p q : ℕ} {v : List ℤ} → IsPoint n v → Has b p (point_bytes v) q → longs_at n b p ≡ v
longs_are n {v = v} good h = longs_from n v good.long good.on_plane h

each_on_plane : (n : ℕ) (b : List ℕ) (p : ℕ) → IsBytes b → AllByRecursion IsCoordinate (longs_at n b p)
each_on_plane zero b p bytes = tt
each_on_plane (suc n) b p bytes = (long_on_plane b p bytes, each_on_plane n b (p + 4) bytes)

pub longs_on_plane : (n : ℕ) (b : List ℕ) (p : ℕ) → IsBytes b → IsPoint n (longs_at n b p)
longs_on_plane n b p bytes = record { long = length-longs_at n b p; on_plane = each_on_plane n b p bytes }

-- points side by side
pub length-points_bytes : (dim : ℕ) (vs : List (List ℤ)) → AllByRecursion (IsPoint dim) vs → length (flat_map point_bytes vs) ≡ 4 * dim * length vs
length-points_bytes dim [] good = omega arith
length-points_bytes dim (v ∷ vs) good =
    grind (arith, length-point_bytes v, good.0.long, length-points_bytes dim vs good.1, length-append (point_bytes v) (flat_map point_bytes vs))

pub has_points : (n dim : ℕ) (b : List ℕ) (p q : ℕ) → IsBytes b → q ≡ p + 4 * dim * n → q ≤ length b → Has b p (flat_map point_bytes (points_at n dim b p)) q
has_points zero dim b p q bytes at within = let e : p ≡ q = omega arith in has_at e has_none
has_points (suc n) dim b p q bytes at within =
    let rest : q ≡ p + 4 * dim + 4 * dim * n = omega arith in
    has_then (has_longs dim b p (p + 4 * dim) bytes refl (omega arith)) (has_points n dim b (p + 4 * dim) q bytes rest within)

pub points_are : (n dim : ℕ) {b : List ℕ} {p q : ℕ} (vs : List (List ℤ)) → length vs ≡ n → AllByRecursion (IsPoint dim) vs
    → Has b p (flat_map point_bytes vs) q → points_at n dim b p ≡ vs
points_are zero dim [] long good h = refl
points_are zero dim (v ∷ vs) long good h = absurd (omega arith)
points_are (suc n) dim [] long good h = absurd (omega arith)
points_are (suc n) dim {b} {p} {q} (v ∷ vs) long good h =
    let two = has_first {b = b} {x = point_bytes v} (p + 4 * dim) (omega (arith, length-point_bytes v, good.0.long)) h in
    let one : longs_at dim b p ≡ v = longs_are dim good.0 two.0 in
    let more : points_at n dim b (p + 4 * dim) ≡ vs = points_are n dim vs (omega arith) good.1 two.1 in
    cc

pub points_on_plane : (n dim : ℕ) (b : List ℕ) (p : ℕ) → IsBytes b → AllByRecursion (IsPoint dim) (points_at n dim b p)
points_on_plane zero dim b p bytes = tt
points_on_plane (suc n) dim b p bytes = (longs_on_plane dim b p bytes, points_on_plane n dim b (p + 4 * dim) bytes)
