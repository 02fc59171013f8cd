-- A number written through a part of a slice is a `put`, and a `put` behind a `put` is one.
use Rattle.std.proofs.Common.{◌≡◌, ℕ, ◌+◌, ◌-◌, ◌*◌, ◌/◌, ◌%◌, ◌^◌, ◌<◌, ◌≤◌, List, [], ◌∷◌, ◌++◌, length, drop, refl, append_assoc, arith, length-drop}
use Rattle.std.proofs.lemmas.List.{append-nil, drop-drop, drop_all, take_rest}
use borrow.Rule.Slice.PartMut.{put_mid, mid_of}
use Rattle.std.specs.Int.{bytes_low_first}
use Rattle.dgn_words.specs.Numbers.{put, long_word_bytes}

-- x written over the front of the part from place p to the end
pub put_mid-front : (p : ℕ) (b x : List ℕ) → p + length x ≤ length b → put_mid p (length b - p) b (x ++ drop (length x) (mid_of p (length b - p) b)) ≡ put b p x
put_mid-front p b x within =
    let none : drop (length b - p) (drop p b) ≡ [] = drop_all (length b - p) (drop p b) (omega (arith, length-drop p b)) in
    let rest : mid_of p (length b - p) b ≡ drop p b = take_rest b p in
    let on : drop (length x) (drop p b) ≡ drop (p + length x) b = drop-drop (length x) p b in
    rw (none, rest, on, append-nil, append_assoc) refl

-- the four bytes of a number whose words are the wrong way round
abbrev pub turned_bytes : ℕ → List ℕ
turned_bytes u = bytes_low_first 0 4 (u % 65536 * 65536 + u / 65536)

four : (a b c d e f g h : ℕ) → a ≡ e → b ≡ f → c ≡ g → d ≡ h → (a ∷ b ∷ c ∷ d ∷ []) ≡ (e ∷ f ∷ g ∷ h ∷ [])
four a b c d e f g h p q r s = cc

-- are those of the number, the high word first
pub turned : (u : ℕ) → u < 2 ^ 32 → turned_bytes u ≡ long_word_bytes u
turned u small = four _ _ _ _ _ _ _ _ (omega arith) (omega arith) (omega arith) (omega arith)
