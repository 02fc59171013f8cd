-- A word, a long and a range number are read from their own bytes alone.
use Rattle.std.proofs.Common.{◌≡◌, ℕ, ◌+◌, ◌*◌, ◌/◌, ◌%◌, ◌<◌, ◌^◌, List, [], ◌∷◌, ◌++◌, refl, ap, ap₂, ◌∙◌, arith}
use Rattle.std.specs.Prelude.{ℤ, pos, ◌+ℤ◌, ◌-ℤ◌, unsigned_abs, FitsSigned}
use Rattle.std.specs.Int.{w32, cast_unsigned}
use Rattle.std.proofs.lemmas.Int.{ints}
use Rattle.std.proofs.lemmas.Bool.Decides.{nat_tests}
use Rattle.std.proofs.lemmas.List.Elements.{All-nil, All-cons, All-append}
use Rattle.dgn_words.specs.Numbers.{word_at, long_word_at, signed, long_at, range_long_at}
use Rattle.dgn_words.specs.Numbers.{word_bytes, long_word_bytes, long_bytes, range_long_bytes}
use Rattle.dgn_words.specs.Laws.{AreBytes, IsLong, WordsAreSpelled, LongsAreSpelled, RangeLongsAreSpelled}

-- ---- numbers, and their bytes

same_two : (a b c d : ℕ) → a ≡ c → b ≡ d → (a ∷ b ∷ []) ≡ (c ∷ d ∷ [])
same_two a b c d first second = cc

word_good : (v : ℕ) → AreBytes 2 (word_bytes v)
word_good v = record {
  long = refl;
  small =
      All-cons (λ x. x < 256) (v % 256) (v / 256 % 256 ∷ []) (omega arith)
      (All-cons (λ x. x < 256) (v / 256 % 256) [] (omega arith) (All-nil (λ x. x < 256)));
}

long_word_good : (u : ℕ) → AreBytes 4 (long_word_bytes u)
long_word_good u = record {
  long = refl;
  small =
      All-append (λ x. x < 256) (word_bytes (u / 65536)) (word_bytes (u % 65536)) (word_good (u / 65536)).small (word_good (u % 65536)).small;
}

word_back : (v : ℕ) → v < 65536 → word_at (word_bytes v) 0 ≡ v
word_back v small = omega arith

long_word_back : (u : ℕ) → u < 2 ^ 32 → long_word_at (long_word_bytes u) 0 ≡ u
long_word_back u small =
    let high : word_at (word_bytes (u / 65536)) 0 ≡ u / 65536 = word_back (u / 65536) (omega arith) in
    let low : word_at (word_bytes (u % 65536)) 0 ≡ u % 65536 = word_back (u % 65536) (omega arith) in
    ap₂ (λ (h l : ℕ). 65536 * h + l) high low ∙ (let whole : 65536 * (u / 65536) + u % 65536 ≡ u = omega arith in whole)

-- ---- bytes, and the number that they read as

word_again : (x y : ℕ) → x < 256 → y < 256 → word_bytes (x + 256 * y) ≡ x ∷ y ∷ []
word_again x y first second = same_two _ _ _ _ (omega arith) (omega arith)

long_word_again : (x y z w : ℕ) → x < 256 → y < 256 → z < 256 → w < 256 → long_word_bytes (65536 * (x + 256 * y) + (z + 256 * w)) ≡ x ∷ y ∷ z ∷ w ∷ []
long_word_again x y z w first second third fourth =
    let high : (65536 * (x + 256 * y) + (z + 256 * w)) / 65536 ≡ x + 256 * y = omega arith in
    let low : (65536 * (x + 256 * y) + (z + 256 * w)) % 65536 ≡ z + 256 * w = omega arith in
    ap₂ (λ (h l : ℕ). word_bytes h ++ word_bytes l) high low
    ∙ ap₂ (λ (h l : List ℕ). h ++ l) (word_again x y first second) (word_again z w third fourth)

long_word_below : (x y z w : ℕ) → x < 256 → y < 256 → z < 256 → w < 256 → 65536 * (x + 256 * y) + (z + 256 * w) < 2 ^ 32
long_word_below x y z w first second third fourth = omega arith

-- what is made of the number of four bytes, by what holds of all numbers below 2 ^ 32
four_bytes : (P : List ℕ → Type 0) → ((x y z w : ℕ) → x < 256 → y < 256 → z < 256 → w < 256 → P (x ∷ y ∷ z ∷ w ∷ [])) → (b : List ℕ) → AreBytes 4 b → P b
four_bytes P each [] are = absurd (omega (arith, are.long))
four_bytes P each (x ∷ []) are = absurd (omega (arith, are.long))
four_bytes P each (x ∷ y ∷ []) are = absurd (omega (arith, are.long))
four_bytes P each (x ∷ y ∷ z ∷ []) are = absurd (omega (arith, are.long))
four_bytes P each (x ∷ y ∷ z ∷ w ∷ []) are =
    each x y z w (are.small 0 0 (omega arith)) (are.small 1 0 (omega arith)) (are.small 2 0 (omega arith)) (are.small 3 0 (omega arith))
four_bytes P each (x ∷ y ∷ z ∷ w ∷ v ∷ more) are = absurd (omega (arith, are.long))

two_bytes : (P : List ℕ → Type 0) → ((x y : ℕ) → x < 256 → y < 256 → P (x ∷ y ∷ [])) → (b : List ℕ) → AreBytes 2 b → P b
two_bytes P each [] are = absurd (omega (arith, are.long))
two_bytes P each (x ∷ []) are = absurd (omega (arith, are.long))
two_bytes P each (x ∷ y ∷ []) are = each x y (are.small 0 0 (omega arith)) (are.small 1 0 (omega arith))
two_bytes P each (x ∷ y ∷ z ∷ more) are = absurd (omega (arith, are.long))

-- ---- numbers of 32 bits with and without sign

fits : (v : ℤ) → IsLong v → FitsSigned w32 v
fits v one = let low = one.0 in let high = one.1 in grind (arith, ints)

signed_back : (v : ℤ) → IsLong v → signed (cast_unsigned w32 v) ≡ v
signed_back v one = let within = fits v one in let low = one.0 in let high = one.1 in grind (arith, ints, nat_tests)

unsigned_below : (v : ℤ) → IsLong v → cast_unsigned w32 v < 2 ^ 32
unsigned_below v one = let within = fits v one in let low = one.0 in let high = one.1 in grind (arith, ints, nat_tests)

unsigned_back : (u : ℕ) → u < 2 ^ 32 → cast_unsigned w32 (signed u) ≡ u
unsigned_back u small = grind (arith, ints, nat_tests)

signed_long : (u : ℕ) → u < 2 ^ 32 → IsLong (signed u)
signed_long u small = (grind (arith, ints, nat_tests), grind (arith, ints, nat_tests))

range_below : (v : ℤ) → IsLong v → unsigned_abs (v +ℤ pos (2 ^ 31)) < 2 ^ 32
range_below v one = let low = one.0 in let high = one.1 in grind (arith, ints)

range_back : (v : ℤ) → IsLong v → pos (unsigned_abs (v +ℤ pos (2 ^ 31))) -ℤ pos (2 ^ 31) ≡ v
range_back v one = let low = one.0 in let high = one.1 in grind (arith, ints)

range_again : (u : ℕ) → u < 2 ^ 32 → unsigned_abs ((pos u -ℤ pos (2 ^ 31)) +ℤ pos (2 ^ 31)) ≡ u
range_again u small = grind (arith, ints)

range_long : (u : ℕ) → u < 2 ^ 32 → IsLong (pos u -ℤ pos (2 ^ 31))
range_long u small = (grind (arith, ints), grind (arith, ints))

-- ---- the laws

pub words_are_spelled : WordsAreSpelled
words_are_spelled = record {
  bytes = λ v one. word_good v;
  back = word_back;
  one = two_bytes (λ b. word_at b 0 < 65536) (λ x y first second. omega arith);
  again = two_bytes (λ b. word_bytes (word_at b 0) ≡ b) word_again;
}

pub longs_are_spelled : LongsAreSpelled
longs_are_spelled = record {
  bytes = λ v one. long_word_good (cast_unsigned w32 v);
  back = λ v one. ap signed (long_word_back (cast_unsigned w32 v) (unsigned_below v one)) ∙ signed_back v one;
  one = four_bytes (λ b. IsLong (long_at b 0)) (λ x y z w f g h k. signed_long _ (long_word_below x y z w f g h k));
  again =
      four_bytes (λ b. long_bytes (long_at b 0) ≡ b)
      (λ x y z w f g h k. ap long_word_bytes (unsigned_back _ (long_word_below x y z w f g h k)) ∙ long_word_again x y z w f g h k);
}

pub range_longs_are_spelled : RangeLongsAreSpelled
range_longs_are_spelled = record {
  bytes = λ v one. long_word_good (unsigned_abs (v +ℤ pos (2 ^ 31)));
  back = λ v one. ap (λ (u : ℕ). pos u -ℤ pos (2 ^ 31)) (long_word_back _ (range_below v one)) ∙ range_back v one;
  one = four_bytes (λ b. IsLong (range_long_at b 0)) (λ x y z w f g h k. range_long _ (long_word_below x y z w f g h k));
  again =
      four_bytes (λ b. range_long_bytes (range_long_at b 0) ≡ b)
      (λ x y z w f g h k. ap long_word_bytes (range_again _ (long_word_below x y z w f g h k)) ∙ long_word_again x y z w f g h k);
}
