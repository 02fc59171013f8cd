-- Of elements with rising numbers, the first cause is that of the least against which there is one.
use Rattle.std.proofs.Common.{◌≡◌, ℕ, zero, suc, ◌+◌, ◌<◌, ◌≤◌, List, [], ◌∷◌, Option, Some, None, refl, ap, ◌∙◌, arith}
use Rattle.std.specs.Prelude.{slice_get}
use Rattle.std.specs.Option.{option_or}
use Rattle.edit_ops.specs.declared.causes.cause.Cause.{Cause}
use Rattle.edit_ops.specs.declared.causes.test.Test.{Test}
use Rattle.edit_ops.specs.Trees.{Live}
use Rattle.edit_ops.specs.Causes.{cause_at, first_cause}
use Rattle.edit_ops.specs.Laws.{NumbersRise, IsLeastCause, FirstCauseIsLeast}

-- none of rising numbers is below the one from which they rise
from_low : (low : ℕ) (vs : List Live) (k : ℕ) (v : Live) → NumbersRise low vs → slice_get vs k ≡ Some v → low ≤ v.number
from_low low [] k v rise there = absurd (let x = there in cc)
from_low low (u ∷ vs) zero v rise there = let same : u ≡ v = let x = there in cc in let number : u.number ≡ v.number = ap (λ (w : Live). w.number) same in
    omega (arith, rise.0)
from_low low (u ∷ vs) (suc k) v rise there = omega (arith, from_low (u.number + 1) vs k v rise.1 there, rise.0)

-- the one that decides, behind one against which there is nothing
passed : (dim : ℕ) (test : Test) (u : Live) (vs : List Live) (c : Cause) → cause_at dim test u.number u.element ≡ None → IsLeastCause dim test vs c
    → IsLeastCause dim test (u ∷ vs) c
passed dim test u vs c nothing is = record {
  place = suc is.place;
  one = is.one;
  there = is.there;
  stands = is.stands;
  least = least;
}
  where
    least : (k : ℕ) (v : Live) → slice_get (u ∷ vs) k ≡ Some v → v.number < is.one.number → cause_at dim test v.number v.element ≡ None
    least zero v there below = let same : u ≡ v = let x = there in cc in
        ap (λ (w : Live). cause_at dim test w.number w.element) (let back : v ≡ u = cc in back) ∙ nothing
    least (suc k) v there below = is.least k v there below

-- the one that decides, first of all
taken : (dim : ℕ) (test : Test) (low : ℕ) (u : Live) (vs : List Live) (c : Cause) → NumbersRise low (u ∷ vs) → cause_at dim test u.number u.element ≡ Some c
    → IsLeastCause dim test (u ∷ vs) c
taken dim test low u vs c rise stands = record {
  place = 0;
  one = u;
  there = refl;
  stands = stands;
  least = none_below;
}
  where
    none_below : (k : ℕ) (v : Live) → slice_get (u ∷ vs) k ≡ Some v → v.number < u.number → cause_at dim test v.number v.element ≡ None
    none_below zero v there below = let same : u ≡ v = let x = there in cc in let number : u.number ≡ v.number = ap (λ (w : Live). w.number) same in
        absurd (omega arith)
    none_below (suc k) v there below = absurd (omega (arith, from_low (u.number + 1) vs k v rise.1 there, below))

-- either the first decides, or what decides behind it
either : (dim : ℕ) (test : Test) (low : ℕ) (u : Live) (vs : List Live) (c : Cause) (o : Option Cause) → NumbersRise low (u ∷ vs)
    → cause_at dim test u.number u.element ≡ o
    → (first_cause dim test vs ≡ Some c → IsLeastCause dim test vs c) → option_or o (first_cause dim test vs) ≡ Some c → IsLeastCause dim test (u ∷ vs) c
either dim test low u vs c None rise has more is = passed dim test u vs c has (more is)
either dim test low u vs c (Some x) rise has more is = taken dim test low u vs c rise (has ∙ is)

-- the first cause is that of one that decides
decides : (dim : ℕ) (test : Test) (low : ℕ) (vs : List Live) (c : Cause) → NumbersRise low vs → first_cause dim test vs ≡ Some c → IsLeastCause dim test vs c
decides dim test low [] c rise is = absurd (let x = is in cc)
decides dim test low (u ∷ vs) c rise is =
    either dim test low u vs c (cause_at dim test u.number u.element) rise refl (decides dim test (u.number + 1) vs c rise.1) is

-- one that decides is the first
is_first : (dim : ℕ) (test : Test) (low : ℕ) (vs : List Live) (c : Cause) (k : ℕ) (v : Live) → NumbersRise low vs → slice_get vs k ≡ Some v
    → cause_at dim test v.number v.element ≡ Some c
    → ((j : ℕ) (w : Live) → slice_get vs j ≡ Some w → w.number < v.number → cause_at dim test w.number w.element ≡ None) → first_cause dim test vs ≡ Some c
is_first dim test low [] c k v rise there stands least = absurd (let x = there in cc)
is_first dim test low (u ∷ vs) c zero v rise there stands least =
    let same : u ≡ v = let x = there in cc in
    ap (λ (w : Live). option_or (cause_at dim test w.number w.element) (first_cause dim test vs)) same
    ∙ ap (λ (o : Option Cause). option_or o (first_cause dim test vs)) stands
is_first dim test low (u ∷ vs) c (suc k) v rise there stands least =
    let below : u.number < v.number = omega (arith, from_low (u.number + 1) vs k v rise.1 there) in
    ap (λ (o : Option Cause). option_or o (first_cause dim test vs)) (least 0 u refl below)
    ∙ is_first dim test (u.number + 1) vs c k v rise.1 there stands (λ j w. least (suc j) w)

-- so the first cause names the least element
pub first_cause_is_least : FirstCauseIsLeast
first_cause_is_least dim test vs c rise =
    (decides dim test 0 vs c rise, λ is. is_first dim test 0 vs c is.place is.one rise is.there is.stands is.least)
