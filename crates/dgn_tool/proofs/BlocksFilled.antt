-- The zero bytes that fill the last block of a file.
use Rattle.std.proofs.Common.{◌≡◌, List, [], ◌∷◌, ℕ, zero, suc, ◌+◌, ◌++◌, length, replicate, take, ◌<◌, ◌≤◌, Bool, true, false, cond, arith}
use Rattle.std.proofs.Common.{refl, ap, ◌∙◌}
use Rattle.dgn_tool.specs.Filling.{is_blocks, left_in_block, filling, file_made}

-- zero bytes of a block
zeros_taken : (n m : ℕ) → n ≤ m → take n (replicate {A = ℕ} m 0) ≡ replicate n 0
zeros_taken zero m few = refl
zeros_taken (suc n) zero few = absurd (omega arith)
zeros_taken (suc n) (suc m) few = ap (λ (l : List ℕ). 0 ∷ l) (zeros_taken n m (omega arith))

filled_as : (blocks : Bool) (n k : ℕ) → n ≡ cond blocks k 0 → replicate {A = ℕ} n 0 ≡ cond blocks (replicate k 0) []
filled_as true n k is = ap (λ (i : ℕ). replicate i 0) is
filled_as false n k is = ap (λ (i : ℕ). replicate i 0) is

-- as many of them as fill the last block
zeros_fill : (before : ℕ) (tail : List ℕ) (now n : ℕ) (zeros : List ℕ) → n < 512 → n ≡ cond (is_blocks before tail) (left_in_block (now + length tail)) 0
    → zeros ≡ take n (replicate {A = ℕ} 512 0) → zeros ≡ filling before tail now
zeros_fill before tail now n zeros few is are =
    are ∙ zeros_taken n 512 (omega arith) ∙ filled_as (is_blocks before tail) n (left_in_block (now + length tail)) is

-- so the bytes of the elements, the tail and they are the file
pub filled_so : (before n long : ℕ) (body tail tail' zeros : List ℕ) → tail' ≡ tail → long ≡ length body → n < 512
    → n ≡ cond (is_blocks before tail') (left_in_block (long + length tail')) 0 → zeros ≡ take n (replicate {A = ℕ} 512 0)
    → body ++ (tail ++ zeros) ≡ file_made before tail body
filled_so before n long body tail tail' zeros same counted few is are =
    let exact : n ≡ cond (is_blocks before tail) (left_in_block (length body + length tail)) 0 =
    is ∙ ap (λ (t : List ℕ). cond (is_blocks before t) (left_in_block (long + length t)) 0) same
    ∙ ap (λ (k : ℕ). cond (is_blocks before tail) (left_in_block (k + length tail)) 0) counted in
    ap (λ (z : List ℕ). body ++ (tail ++ z)) (zeros_fill before tail (length body) n zeros few exact are)
