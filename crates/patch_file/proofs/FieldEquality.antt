-- Fields that exchange the same are the same.
use Rattle.std.proofs.Common.{◌≡◌, ℕ, ◌-◌, ◌≤◌, List, ◌++◌, length, take, drop, replicate, ap, sym, ◌∙◌, subst, arith, length-take}
use mathlib.Core.List.{is_set}
use Rattle.std.proofs.Math.Bridge.{le_prop}
use Rattle.std.proofs.Math.Nat.{ℕ_set}
use Rattle.std.proofs.lemmas.List.{take-append-drop}
use Rattle.patch_file.specs.declared.field.Field.{Field}
use Rattle.patch_file.specs.FieldView.{ExchangesTell}

-- the facts that a field keeps, one behind the other
Kept : ℕ → List ℕ → List ℕ → Type 0
Kept len was put = (1 ≤ len) × (len ≤ 4) × (drop len was ≡ replicate (4 - len) 0) × (drop len put ≡ replicate (4 - len) 0)

Kept-prop : (len : ℕ) (was put : List ℕ) → IsProp (Kept len was put)
unfolding Kept
Kept-prop len was put =
    let lists : IsSet (List ℕ) = is_set ℕ_set in
    hlevel (le_prop {n = 1} {m = len}, le_prop {n = len} {m = 4}, lists)

made : (at len : ℕ) (was put : List ℕ) → Kept len was put → Field
unfolding Kept
made at len was put k = record { at = at; len = len; was = was; put = put; least = k.0; most = k.1; rest_was = k.2; rest_put = k.3 }

kept : (f : Field) → Kept f.len f.was f.put
unfolding Kept
kept f = (f.least, f.most, f.rest_was, f.rest_put)

same_fields : (at at' len len' : ℕ) (was was' put put' : List ℕ) (k : Kept len was put) (k' : Kept len' was' put') → at ≡ at' → len ≡ len' → was ≡ was'
    → put ≡ put' → made at len was put k ≡ made at' len' was' put' k'
same_fields at at' len len' was was' put put' k k' e f g h =
    subst (λ a. made at len was put k ≡ made a len' was' put' k') e
    (subst (λ l. (j : Kept l was' put') → made at len was put k ≡ made at l was' put' j) f
    (subst (λ x. (j : Kept len x put') → made at len was put k ≡ made at len x put' j) g
    (subst (λ y. (j : Kept len was y) → made at len was put k ≡ made at len was y j) h
    (λ j. ap (made at len was put) (Kept-prop len was put k j))))
    k')

-- the bytes are the first ones and then zeros
bytes_are : (len : ℕ) (bytes : List ℕ) → drop len bytes ≡ replicate (4 - len) 0 → bytes ≡ take len bytes ++ replicate (4 - len) 0
bytes_are len bytes rest = sym (take-append-drop len bytes) ∙ ap (λ r. take len bytes ++ r) rest

same_bytes : (n m : ℕ) (x y : List ℕ) → n ≡ m → take n x ≡ take m y → drop n x ≡ replicate (4 - n) 0 → drop m y ≡ replicate (4 - m) 0 → x ≡ y
same_bytes n m x y len front e f =
    bytes_are n x e ∙ ap (λ t. t ++ replicate (4 - n) 0) front ∙ ap (λ k. take m y ++ replicate (4 - k) 0) len ∙ sym (bytes_are m y f)

pub exchanges_tell : (f g : Field) → length f.was ≡ 4 → length g.was ≡ 4 → ExchangesTell f g
unfolding made kept
exchanges_tell f g e d = λ same.
    let at : f.at ≡ g.at = ap (λ x. x.at) same in
    let was : take f.len f.was ≡ take g.len g.was = ap (λ x. x.was) same in
    let put : take f.len f.put ≡ take g.len g.put = ap (λ x. x.put) same in
    let most = f.most in
    let most' = g.most in
    let long : length (take f.len f.was) ≡ length (take g.len g.was) = ap length was in
    let len : f.len ≡ g.len = omega (arith, length-take f.len f.was, length-take g.len g.was) in
    same_fields f.at g.at f.len g.len f.was g.was f.put g.put (kept f) (kept g) at len
    (same_bytes f.len g.len f.was g.was len was f.rest_was g.rest_was) (same_bytes f.len g.len f.put g.put len put f.rest_put g.rest_put)
