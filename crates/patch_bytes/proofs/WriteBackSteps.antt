-- The steps of writing back: the last of what is left.
use Rattle.std.proofs.Common.{◌≡◌, ℕ, ◌+◌, ◌-◌, ◌<◌, ◌≤◌, List, [], ◌∷◌, ◌++◌, length, take, map, get_or, ap, sym, ◌∙◌, subst, arith}
use Rattle.std.proofs.lemmas.List.{take-map, map_more}
use Rattle.patch_bytes.specs.declared.patch.Patch.{Patch}
use Rattle.patch_bytes.specs.Puts.{Put, lay, write_back, IsWithin, AreWithin}
use Rattle.patch_bytes.specs.PatchView.{put_of}
use Rattle.patch_bytes.proofs.PutsLaid.{within_laid, write_back_push}

-- what the first i + 1 patches put
puts_more : (xs : List Patch) (i : ℕ) (x : Patch) → i < length xs → x ≡ get_or xs i x → take (i + 1) (map put_of xs) ≡ take i (map put_of xs) ++ put_of x ∷ []
puts_more xs i x h e =
    take-map put_of (i + 1) xs
    ∙ map_more put_of xs i x h
    ∙ ap (λ l. l ++ put_of (get_or xs i x) ∷ []) (sym (take-map put_of i xs))
    ∙ ap (λ y. take i (map put_of xs) ++ put_of y ∷ []) (sym e)

pub within_push : (n : ℕ) (ps : List Put) (p : Put) → AreWithin n (ps ++ p ∷ []) → AreWithin n ps × IsWithin n p
within_push n [] p w = (tt, w.0)
within_push n (q ∷ qs) p w = let more = within_push n qs p w.1 in ((w.0, more.0), more.1)

-- x is the last of the first n patches, all of which lie in b
pub record IsLast (b : List ℕ) (xs : List Patch) (n : ℕ) (x : Patch) : Type 0 where
  pub front : AreWithin (length b) (take (n - 1) (map put_of xs))
  pub within : IsWithin (length b) (put_of x)
  pub puts : take n (map put_of xs) ≡ take (n - 1) (map put_of xs) ++ put_of x ∷ []

pub last_left : (b : List ℕ) (xs : List Patch) (n : ℕ) (x : Patch) → 0 < n → n ≤ length xs → AreWithin (length b) (take n (map put_of xs))
    → x ≡ get_or xs (n - 1) x → IsLast b xs n x
last_left b xs n x some few w e =
    let more : take (n - 1 + 1) (map put_of xs) ≡ take (n - 1) (map put_of xs) ++ put_of x ∷ [] = puts_more xs (n - 1) x (omega arith) e in
    let puts : take n (map put_of xs) ≡ take (n - 1) (map put_of xs) ++ put_of x ∷ [] =
    subst (λ m. take m (map put_of xs) ≡ take (n - 1) (map put_of xs) ++ put_of x ∷ []) (omega arith) more in
    let both = within_push (length b) (take (n - 1) (map put_of xs)) (put_of x) (subst (AreWithin (length b)) puts w) in
    record { front = both.0; within = both.1; puts = puts }

-- once the last is laid, what is left gives the same
pub back_more : (b c : List ℕ) (xs : List Patch) (n : ℕ) (x : Patch) → IsLast b xs n x → c ≡ lay b (put_of x)
    → write_back c (take (n - 1) (map put_of xs)) ≡ write_back b (take n (map put_of xs))
back_more b c xs n x last e =
    ap (λ r. write_back r (take (n - 1) (map put_of xs))) e
    ∙ sym (write_back_push b (take (n - 1) (map put_of xs)) (put_of x))
    ∙ ap (write_back b) (sym last.puts)

pub within_more : (b c : List ℕ) (xs : List Patch) (n : ℕ) (x : Patch) → IsLast b xs n x → c ≡ lay b (put_of x)
    → AreWithin (length c) (take (n - 1) (map put_of xs))
within_more b c xs n x last e =
    subst (λ r. AreWithin (length r) (take (n - 1) (map put_of xs))) (sym e) (within_laid b (put_of x) (take (n - 1) (map put_of xs)) last.within last.front)
