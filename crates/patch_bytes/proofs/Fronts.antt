-- A writer of several pieces: each piece that is written, then the last one, or a front of the one at which it stops.
use Rattle.std.proofs.Common.{ℕ, ◌≡◌, ◌+◌, ◌++◌, List, length, take, Result, Ok, Err, ap, sym, ◌∙◌, arith, append_assoc, length-append, subst}
use Rattle.std.specs.Prelude.{IsErr}
use Rattle.std.proofs.lemmas.List.{take-append-le}
use Rattle.std.proofs.Math.Seq.{take-append-add}
use Rattle.patch_bytes.specs.Fronts.{AppendsFrontOf, Appends}

-- a front of the first piece
pub first : (a b old new : List ℕ) → AppendsFrontOf a old new → AppendsFrontOf (a ++ b) old new
first a b old new f = record {
  count = f.count;
  within = omega (arith, length-append a b, f.within);
  bytes = f.bytes ∙ ap (λ (t : List ℕ). old ++ t) (sym (take-append-le f.count a b f.within));
}

-- the first piece, and a front of what follows
pub later : (a b old mid new : List ℕ) → mid ≡ old ++ a → AppendsFrontOf b mid new → AppendsFrontOf (a ++ b) old new
later a b old mid new before f = record {
  count = length a + f.count;
  within = omega (arith, length-append a b, f.within);
  bytes = f.bytes ∙ (ap (λ (t : List ℕ). t ++ take f.count b) before
      ∙ (append_assoc old a (take f.count b) ∙ ap (λ (t : List ℕ). old ++ t) (sym (take-append-add a b f.count))));
}

-- what is written, and what is behind it as the answer says
pub behind : {X E : Type 0} {r : Result X E} (a : List ℕ) {b old mid new : List ℕ} → mid ≡ old ++ a → Appends r b mid new → Appends r (a ++ b) old new
behind {r = Ok y} a {b = b} {old = old} before rest = record {
  text = rest.text ∙ (ap (λ (t : List ℕ). t ++ b) before ∙ append_assoc old a b);
  front = tt;
}
behind {r = Err e} a {b = b} {old = old} {mid = mid} {new = new} before rest = record { text = tt; front = later a b old mid new before rest.front }

-- a piece is written, and what is behind it as the answer says
pub next : {X Y E : Type 0} {x : Y} {r : Result X E} {a b old mid new : List ℕ} → Appends {X = Y} {E = E} (Ok x) a old mid → Appends r b mid new
    → Appends r (a ++ b) old new
next {a = a} before rest = behind a before.text rest

-- no more than a front of a piece is written
pub stopped : {X Y E F : Type 0} {e : F} {r : Result X E} {a old new : List ℕ} (b : List ℕ) → Appends {X = Y} {E = F} (Err e) a old new
    → IsErr r → Appends r (a ++ b) old new
stopped {r = Ok y} b before is = absurd (let e = is in cc)
stopped {r = Err f} {a = a} {old = old} {new = new} b before is = record { text = tt; front = first a b old new before.front }

-- the text may be written otherwise
pub as_text : {X E : Type 0} {r : Result X E} {a b old new : List ℕ} → Appends r a old new → a ≡ b → Appends r b old new
as_text {r = r} {old = old} {new = new} known is = subst (λ (t : List ℕ). Appends r t old new) is known

-- and so may the old bytes
pub as_old : {X E : Type 0} {r : Result X E} {a old kept new : List ℕ} → Appends r a old new → old ≡ kept → Appends r a kept new
as_old {r = r} {a = a} {new = new} known is = subst (λ (t : List ℕ). Appends r a t new) is known

-- all is written
pub ended : {X E : Type 0} (x : X) {a old new : List ℕ} → new ≡ old ++ a → Appends {X = X} {E = E} (Ok x) a old new
ended x is = record { text = is; front = tt }
