-- The bytes of a word, of a long and of a range number are the one list of so many bytes that reads as that number.
use Rattle.std.specs.Prelude.{ℕ, ◌≡◌, ◌<◌, List, length, ℤ, pos, neg_ℤ, ◌≤ℤ◌, All}
use Rattle.dgn_words.specs.Numbers.{word_at, long_at, range_long_at, word_bytes, long_bytes, range_long_bytes}

-- a list of n bytes
pub record AreBytes (n : ℕ) (b : List ℕ) : Type 0 where
  pub long : length b ≡ n
  pub small : All (λ x. x < 256) b

-- a number of 32 bits with its sign
abbrev pub IsLong : ℤ → Type 0
IsLong v = (neg_ℤ (pos 2147483648) ≤ℤ v) × (v ≤ℤ pos 2147483647)

-- each number of a kind is spelled by n bytes that read as it; and each n bytes read as a number of the kind, of which
-- they are the spelling
pub record AreSpelled {A : Type 0} (n : ℕ) (IsOne : A → Type 0) (spell : A → List ℕ) (read : List ℕ → A) : Type 0 where
  pub bytes : (v : A) → IsOne v → AreBytes n (spell v)
  pub back : (v : A) → IsOne v → read (spell v) ≡ v
  pub one : (b : List ℕ) → AreBytes n b → IsOne (read b)
  pub again : (b : List ℕ) → AreBytes n b → spell (read b) ≡ b

abbrev pub WordsAreSpelled : Type 0
WordsAreSpelled = AreSpelled 2 (λ v. v < 65536) word_bytes (λ b. word_at b 0)

abbrev pub LongsAreSpelled : Type 0
LongsAreSpelled = AreSpelled 4 IsLong long_bytes (λ b. long_at b 0)

abbrev pub RangeLongsAreSpelled : Type 0
RangeLongsAreSpelled = AreSpelled 4 IsLong range_long_bytes (λ b. range_long_at b 0)
