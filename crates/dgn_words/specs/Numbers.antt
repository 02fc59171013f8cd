-- The numbers of a design file, as they stand in its bytes. A word is two bytes, the low byte first.
-- A long is four bytes: its high word first, and in each word the low byte first.
use Rattle.std.specs.Prelude.{ℕ, zero, suc, ◌+◌, ◌*◌, ◌/◌, ◌%◌, ◌^◌, List, [], ◌∷◌, ◌++◌, length, take, drop, slice_index, ℤ, pos, ◌+ℤ◌, ◌-ℤ◌, nat_lt}
use Rattle.std.specs.Prelude.{if◌then◌else◌, unsigned_abs}
use Rattle.std.specs.Int.{w32, cast_unsigned}

-- the word at place p
abbrev pub word_at : List ℕ → ℕ → ℕ
word_at b p = slice_index b p + 256 * slice_index b (p + 1)

-- the four bytes at place p, high word first, as a number without sign
abbrev pub long_word_at : List ℕ → ℕ → ℕ
long_word_at b p = 65536 * word_at b p + word_at b (p + 2)

-- a number of 32 bits, read as two's complement
abbrev pub signed : ℕ → ℤ
signed u = if nat_lt u (2 ^ 31) then pos u else pos u -ℤ pos (2 ^ 32)

-- the long at place p: the four bytes, read as two's complement
abbrev pub long_at : List ℕ → ℕ → ℤ
long_at b p = signed (long_word_at b p)

-- the n longs that stand side by side from place p on
abbrev pub longs_at : ℕ → List ℕ → ℕ → List ℤ
longs_at zero b p = []
longs_at (suc n) b p = long_at b p ∷ longs_at n b (p + 4)

-- the range number at place p: the four bytes without sign, less 2147483648
abbrev pub range_long_at : List ℕ → ℕ → ℤ
range_long_at b p = pos (long_word_at b p) -ℤ pos (2 ^ 31)

-- the two bytes of a word
abbrev pub word_bytes : ℕ → List ℕ
word_bytes v = v % 256 ∷ v / 256 % 256 ∷ []

-- the four bytes of a number of 32 bits, high word first
abbrev pub long_word_bytes : ℕ → List ℕ
long_word_bytes u = word_bytes (u / 65536) ++ word_bytes (u % 65536)

-- the four bytes of a long
abbrev pub long_bytes : ℤ → List ℕ
long_bytes v = long_word_bytes (cast_unsigned w32 v)

-- the four bytes of a range number
abbrev pub range_long_bytes : ℤ → List ℕ
range_long_bytes v = long_word_bytes (unsigned_abs (v +ℤ pos (2 ^ 31)))

-- the bytes b with x written over those from place p on
abbrev pub put : List ℕ → ℕ → List ℕ → List ℕ
put b p x = take p b ++ x ++ drop (p + length x) b
