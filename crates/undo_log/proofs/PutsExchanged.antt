-- Exchanging patches with what stood there, one after the other.
use Rattle.std.proofs.Common.{◌≡◌, ℕ, ◌+◌, ◌<◌, zero, suc, List, [], ◌∷◌, ◌++◌, length, take, drop, set, slice_get, Some, None, ap, sym, ◌∙◌, subst, arith}
use Rattle.std.proofs.Common.{add-one, append_assoc}
use Rattle.std.proofs.lemmas.List.{length-set, take_more_set, drop-set-lt}
use Rattle.patch_bytes.specs.Puts.{Put, lay, write, old_of, olds, IsWithin, AreWithin}
use Rattle.patch_bytes.proofs.PutsLaid.{within_laid}

-- the first i puts of ps are exchanged, and the others wait to be written into b; all was qs, in c
pub record AreSwapped (b : List ℕ) (ps : List Put) (i : ℕ) (c : List ℕ) (qs : List Put) : Type 0 where
  pub many : length ps ≡ length qs
  pub within : AreWithin (length b) (drop i ps)
  pub written : write b (drop i ps) ≡ write c qs
  pub kept : take i ps ++ olds b (drop i ps) ≡ olds c qs

-- what is at i stands before what is behind it
pub drop_at_get : (ps : List Put) (i : ℕ) (p : Put) → slice_get ps i ≡ Some p → drop i ps ≡ p ∷ drop (suc i) ps
drop_at_get [] i p e = cc
drop_at_get (q ∷ qs) zero p e = let same : q ≡ p = cc in ap (λ r. r ∷ qs) same
drop_at_get (q ∷ qs) (suc i) p e = drop_at_get qs i p e

-- and lies in the bytes
pub within_at : (b : List ℕ) (ps : List Put) (i : ℕ) (c : List ℕ) (qs : List Put) (p : Put) → AreSwapped b ps i c qs → slice_get ps i ≡ Some p
    → IsWithin (length b) p
within_at b ps i c qs p s e =
    let both : AreWithin (length b) (p ∷ drop (suc i) ps) = subst (AreWithin (length b)) (drop_at_get ps i p e) s.within in both.0

-- before the end there is one
pub some_before : (ps : List Put) (i : ℕ) → i < length ps → None ≡ slice_get ps i → ⊥
some_before [] i h e = omega (arith, h)
some_before (p ∷ ps) zero h e = cc
some_before (p ∷ ps) (suc i) h e = some_before ps i (omega (arith, h)) e

pub swapped_more : (b d : List ℕ) (ps : List Put) (i : ℕ) (c : List ℕ) (qs : List Put) (p : Put) → AreSwapped b ps i c qs → i < length ps
    → slice_get ps i ≡ Some p → d ≡ lay b p → AreSwapped d (set ps i (old_of b p)) (i + 1) c qs
swapped_more b d ps i c qs p s h e f =
    let r : List Put = drop (suc i) ps in
    let at : drop i ps ≡ p ∷ drop (suc i) ps = drop_at_get ps i p e in
    let both : AreWithin (length b) (p ∷ drop (suc i) ps) = subst (AreWithin (length b)) at s.within in
    let rest : drop (i + 1) (set ps i (old_of b p)) ≡ drop (suc i) ps =
    drop-set-lt (i + 1) ps i (old_of b p) (omega arith) ∙ ap (λ n. drop n ps) (add-one i) in
    let front : take (i + 1) (set ps i (old_of b p)) ≡ take i ps ++ old_of b p ∷ [] = take_more_set ps i (old_of b p) h in
    record {
      many = length-set ps i (old_of b p) ∙ s.many;
      within = subst (AreWithin (length d)) (sym rest) (subst (λ x. AreWithin (length x) r) (sym f) (within_laid b p r both.0 both.1));
      written = ap (write d) rest ∙ ap (λ x. write x r) f ∙ ap (write b) (sym at) ∙ s.written;
      kept = ap (λ t. t ++ olds d (drop (i + 1) (set ps i (old_of b p)))) front
          ∙ ap (λ l. take i ps ++ old_of b p ∷ [] ++ olds d l) rest
          ∙ ap (λ x. take i ps ++ old_of b p ∷ [] ++ olds x r) f
          ∙ append_assoc (take i ps) (old_of b p ∷ []) (olds (lay b p) r)
          ∙ ap (λ l. take i ps ++ olds b l) (sym at)
          ∙ s.kept;
    }
