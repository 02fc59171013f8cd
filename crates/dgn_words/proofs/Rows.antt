-- Longs that stand side by side: how many they are, each of them, and an array that is made of them.
use Rattle.std.proofs.Common.{◌≡◌, ℕ, zero, suc, ◌+◌, ◌*◌, ◌<◌, List, length, get_or, refl, sym, ap, subst, ◌∙◌, arith}
use Rattle.std.specs.Prelude.{ℤ}
use Rattle.std.specs.Fn.{Called}
use Rattle.std.specs.Array.{IsFromFnResult, IsFromFnResultFrom}
use Rattle.std.proofs.lemmas.List.{same_lists}
use denote.Param.Members.{Mut}
use Rattle.dgn_words.specs.Numbers.{long_at, longs_at}

-- there are n of them
pub length-longs_at : (n : ℕ) (b : List ℕ) (p : ℕ) → length (longs_at n b p) ≡ n
length-longs_at zero b p = refl
length-longs_at (suc n) b p = grind (arith, length-longs_at n b (p + 4))

-- the one at index k stands 4 * k bytes behind the first
pub get_or-longs_at : (n : ℕ) (b : List ℕ) (p k : ℕ) (d : ℤ) → k < n → get_or (longs_at n b p) k d ≡ long_at b (p + 4 * k)
get_or-longs_at zero b p k d within = absurd (omega arith)
get_or-longs_at (suc n) b p zero d within = ap (long_at b) (omega arith)
get_or-longs_at (suc n) b p (suc k) d within =
    get_or-longs_at n b (p + 4) k d (omega arith) ∙ ap (long_at b) (omega arith)

module _ {F : Type 0} (g : Mut F (ℕ × Unit {0}) ℤ) (f : F) (b : List ℕ) (p : ℕ)
    (reads : (k : ℕ) (v : ℤ) (f' : F) → Called g f (k, tt) v f' → (v ≡ long_at b (p + 4 * k)) × (f' ≡ f)) where
  -- what the n calls from index i on gave are the longs there
  made_each : (xs : List ℤ) (i n : ℕ) → IsFromFnResultFrom g f xs i n → (k j : ℕ) (d : ℤ) → k < n → i + k ≡ j → get_or xs j d ≡ long_at b (p + 4 * j)
  made_each xs i zero made k j d within at = absurd (omega arith)
  made_each xs i (suc n) made zero j d within at =
      let here : i ≡ j = omega arith in
      subst (λ (v : ℕ). get_or xs v d ≡ long_at b (p + 4 * v)) here (made.2.1 d ∙ (reads i made.1 made.0 made.3).0)
  made_each xs i (suc n) made (suc k) j d within at =
      let same : made.0 ≡ f = (reads i made.1 made.0 made.3).1 in
      let on : IsFromFnResultFrom g f xs (i + 1) n = subst (λ (q : F). IsFromFnResultFrom g q xs (i + 1) n) same made.4 in
      made_each xs (i + 1) n on k j d (omega arith) (omega arith)

  -- an array made by calls that each give a long is the row of these longs
  pub longs_from_fn : (xs : List ℤ) (n : ℕ) → IsFromFnResult g f xs n → xs ≡ longs_at n b p
  longs_from_fn xs n made =
      let long = length-longs_at n b p in
      same_lists _ _ (made.long ∙ sym long) (λ k d within.
      let within_n : k < n = omega (arith, made.long) in
      made_each xs 0 n made.each k k d within_n (omega arith) ∙ sym (get_or-longs_at n b p k d within_n))
