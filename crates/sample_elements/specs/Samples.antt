-- The TCB of a worked drawing, pieces of bytes one behind the other, and bytes with others put into them.
use Rattle.std.specs.Prelude.{ℕ, ◌+◌, ◌/◌, ◌%◌, List, [], ◌∷◌, ◌++◌, replicate, slice_set}

-- a TCB: its first byte, the other three of its head, and zero bytes but for byte 1214
unfoldable pub tcb : ℕ → ℕ → List ℕ
tcb first mark = (first ∷ 9 ∷ 254 ∷ 2 ∷ []) ++ replicate 1210 0 ++ (mark ∷ []) ++ replicate 321 0

-- the pieces one behind the other
abbrev pub concatenated : List (List ℕ) → List ℕ
concatenated [] = []
concatenated (piece ∷ pieces) = piece ++ concatenated pieces

-- the bytes with the two of a word from place n on, the low one first
abbrev pub put_word : ℕ → ℕ → List ℕ → List ℕ
put_word n word bytes = slice_set (slice_set bytes n (word % 256)) (n + 1) (word / 256)
