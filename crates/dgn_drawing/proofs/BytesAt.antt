-- What stands where in bytes: the bytes of b from place p up to place q. Pieces that stand side by side
-- are one piece, and one piece is its parts.
use Rattle.std.proofs.Common.{◌≡◌, ℕ, ◌+◌, ◌-◌, ◌<◌, ◌≤◌, List, [], ◌∷◌, ◌++◌, length, take, drop, get_or, refl, sym, ap, subst, ◌∙◌, append_assoc, arith}
use Rattle.std.proofs.Common.{length-append, length-drop}
use Rattle.std.proofs.lemmas.List.{append-nil, drop-drop, drop_at, drop_all, drop_more, take_at, take-append-drop, get_or-drop, get_or_append_left}

-- the bytes of b from p up to q are x
pub record Has (b : List ℕ) (p : ℕ) (x : List ℕ) (q : ℕ) : Type 0 where
  pub parts : drop p b ≡ x ++ drop q b

-- pieces side by side are one piece
pub has_then : {b : List ℕ} {p q r : ℕ} {x y : List ℕ} → Has b p x q → Has b q y r → Has b p (x ++ y) r
has_then {b} {p} {q} {r} {x} {y} h k = record { parts = h.parts ∙ ap (λ z. x ++ z) k.parts ∙ sym (append_assoc x y (drop r b)) }

-- one piece is its first part and what is behind it
pub has_first : {b : List ℕ} {p r : ℕ} {x y : List ℕ} (q : ℕ) → q ≡ p + length x → Has b p (x ++ y) r → Has b p x q × Has b q y r
has_first {b} {p} {r} {x} {y} q at h =
    let whole : drop p b ≡ x ++ (y ++ drop r b) = h.parts ∙ append_assoc x y (drop r b) in
    let behind : drop q b ≡ y ++ drop r b =
    ap (λ (k : ℕ). drop k b) at ∙ sym (drop-drop (length x) p b) ∙ ap (drop (length x)) whole ∙ drop_at x (y ++ drop r b) (length x) refl in
    (record { parts = whole ∙ ap (λ z. x ++ z) (sym behind) }, record { parts = behind })

-- nothing stands between a place and itself
pub has_none : {b : List ℕ} {p : ℕ} → Has b p [] p
has_none = record { parts = refl }

-- the place behind is the place before and the length
pub has_at : {b : List ℕ} {p q r : ℕ} {x : List ℕ} → q ≡ r → Has b p x q → Has b p x r
has_at {b} {p} {q} {r} {x} e h = subst (λ (k : ℕ). Has b p x k) e h

-- a piece by an equation
pub has_same : {b : List ℕ} {p q : ℕ} {x y : List ℕ} → x ≡ y → Has b p x q → Has b p y q
has_same {b} {p} {q} {x} {y} e h = subst (λ (z : List ℕ). Has b p z q) e h

-- the whole rest of b
pub has_rest : (b : List ℕ) (p : ℕ) → Has b p (drop p b) (length b)
has_rest b p = record { parts = sym (ap (λ z. drop p b ++ z) (drop_all (length b) b (omega arith)) ∙ append-nil (drop p b)) }

-- what stands up to the end is the rest
pub rest_is : {b : List ℕ} {p : ℕ} {x : List ℕ} → Has b p x (length b) → drop p b ≡ x
rest_is {b} {p} {x} h = h.parts ∙ ap (λ z. x ++ z) (drop_all (length b) b (omega arith)) ∙ append-nil x

-- a run of n bytes
pub has_run : (b : List ℕ) (p n q : ℕ) → q ≡ p + n → Has b p (take n (drop p b)) q
has_run b p n q at = record {
  parts = sym (take-append-drop n (drop p b)) ∙ ap (λ z. take n (drop p b) ++ z) (drop-drop n p b ∙ ap (λ (k : ℕ). drop k b) (sym at));
}

-- and what it is
pub run_is : {b : List ℕ} {p q : ℕ} {x : List ℕ} (n : ℕ) → length x ≡ n → Has b p x q → take n (drop p b) ≡ x
run_is {b} {p} {q} {x} n long h = ap (take n) h.parts ∙ take_at x (drop q b) n long

-- one byte
pub has_byte : (b : List ℕ) (p q : ℕ) → q ≡ p + 1 → q ≤ length b → Has b p (get_or b p 0 ∷ []) q
has_byte b p q at within = record { parts = drop_more b p 0 (omega arith) ∙ ap (λ (k : ℕ). get_or b p 0 ∷ drop k b) (sym at) }

-- each byte of a piece stands at its place
pub index_is : {b : List ℕ} {p q : ℕ} {x : List ℕ} (k r : ℕ) → r ≡ p + k → k < length x → Has b p x q → get_or b r 0 ≡ get_or x k 0
index_is {b} {p} {q} {x} k r at within h =
    ap (λ (j : ℕ). get_or b j 0) at ∙ sym (get_or-drop p b k 0) ∙ ap (λ z. get_or z k 0) h.parts ∙ get_or_append_left x (drop q b) 0 k within

-- a piece within b has as many bytes as there are places
pub has_length : {b : List ℕ} {p q : ℕ} {x : List ℕ} → Has b p x q → p ≤ q → q ≤ length b → length x ≡ q - p
has_length {b} {p} {q} {x} h before within =
    omega (arith, ap (length {A = ℕ}) h.parts, length-append x (drop q b), length-drop p b, length-drop q b)
