-- Patches that put the same are the same.
use Rattle.std.proofs.Common.{◌≡◌, ℕ, ◌-◌, ◌≤◌, List, ◌++◌, length, take, drop, replicate, ap, sym, ◌∙◌, subst, arith, length-take}
use mathlib.Core.List.{is_set}
use Rattle.std.proofs.Math.Bridge.{le_prop}
use Rattle.std.proofs.Math.Nat.{ℕ_set}
use Rattle.std.proofs.lemmas.List.{take-append-drop}
use Rattle.patch_bytes.specs.declared.patch.Patch.{Patch}
use Rattle.patch_bytes.specs.PatchView.{put_of, PutsTell}

-- the facts that a patch keeps, one behind the other
Kept : ℕ → List ℕ → Type 0
Kept len bytes = (1 ≤ len) × (len ≤ 4) × (drop len bytes ≡ replicate (4 - len) 0)

Kept-prop : (len : ℕ) (bytes : List ℕ) → IsProp (Kept len bytes)
unfolding Kept
Kept-prop len bytes =
    let lists : IsSet (List ℕ) = is_set ℕ_set in
    hlevel (le_prop {n = 1} {m = len}, le_prop {n = len} {m = 4}, lists)

made : (at len : ℕ) (bytes : List ℕ) → Kept len bytes → Patch
unfolding Kept
made at len bytes k = record { at = at; len = len; bytes = bytes; least = k.0; most = k.1; rest = k.2 }

kept : (p : Patch) → Kept p.len p.bytes
unfolding Kept
kept p = (p.least, p.most, p.rest)

same_fields : (at at' len len' : ℕ) (bytes bytes' : List ℕ) (k : Kept len bytes) (k' : Kept len' bytes') → at ≡ at' → len ≡ len' → bytes ≡ bytes'
    → made at len bytes k ≡ made at' len' bytes' k'
same_fields at at' len len' bytes bytes' k k' e f g =
    subst (λ a. made at len bytes k ≡ made a len' bytes' k') e
    (subst (λ l. (h : Kept l bytes') → made at len bytes k ≡ made at l bytes' h) f
    (subst (λ x. (h : Kept len x) → made at len bytes k ≡ made at len x h) g
    (λ h. ap (made at len bytes) (Kept-prop len bytes k h)))
    k')

-- the bytes are those that are put and then zeros
bytes_are : (p : Patch) → p.bytes ≡ take p.len p.bytes ++ replicate (4 - p.len) 0
bytes_are p = sym (take-append-drop p.len p.bytes) ∙ ap (λ r. take p.len p.bytes ++ r) p.rest

length_put : (p : Patch) → length p.bytes ≡ 4 → length (put_of p).bytes ≡ p.len
length_put p e = let m = p.most in omega (arith, length-take p.len p.bytes)

pub puts_tell : (p q : Patch) → length p.bytes ≡ 4 → length q.bytes ≡ 4 → PutsTell p q
unfolding made kept
puts_tell p q e f = λ same.
    let at : p.at ≡ q.at = ap (λ x. x.at) same in
    let put : take p.len p.bytes ≡ take q.len q.bytes = ap (λ x. x.bytes) same in
    let len : p.len ≡ q.len = sym (length_put p e) ∙ ap length put ∙ length_put q f in
    let bytes : p.bytes ≡ q.bytes =
    bytes_are p ∙ ap (λ x. x ++ replicate (4 - p.len) 0) put ∙ ap (λ n. take q.len q.bytes ++ replicate (4 - n) 0) len ∙ sym (bytes_are q) in
    same_fields p.at q.at p.len q.len p.bytes q.bytes (kept p) (kept q) at len bytes
