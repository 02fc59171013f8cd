-- Numbers of calls that are to fail: those that are above a call's number stay above every later one's.
use Rattle.std.proofs.Common.{◌≡◌, ℕ, ◌≤◌, ◌==◌, ◌∷◌, ◌++◌, [], List, not, false, true, nat_le, IsTrue, refl, arith}
use Rattle.std.specs.List.{list_any}
use Rattle.std.proofs.lemmas.Bool.{or_from, or_parts, leb-false, lt-leb, not-true, not_from_false}
use Rattle.std.proofs.lemmas.List.{length-append}
use Rattle.dgn_desk.specs.declared.act.Act.{Act}
use Rattle.dgn_desk.specs.NumberedDesk.{NumberedDesk, next_number, is_listed, none_ahead}

-- where none of the numbers is at or above one, none is at or above a higher one
none_higher : (low high : ℕ) (numbers : List ℕ) → low ≤ high → list_any (λ n. nat_le low n) numbers ≡ false → list_any (λ n. nat_le high n) numbers ≡ false
none_higher low high [] above none = refl
none_higher low high (n ∷ numbers) above none =
    let both = or_parts (nat_le low n) (list_any (λ n. nat_le low n) numbers) none in
    let below = leb-false low n both.0 in
    or_from (nat_le high n) (list_any (λ n. nat_le high n) numbers) (lt-leb high n (omega arith)) (none_higher low high numbers above both.1)

-- nor is one of them it
none_there : (next : ℕ) (numbers : List ℕ) → list_any (λ n. nat_le next n) numbers ≡ false → list_any (λ n. n == next) numbers ≡ false
none_there next [] none = refl
none_there next (n ∷ numbers) none =
    let both = or_parts (nat_le next n) (list_any (λ n. nat_le next n) numbers) none in
    let below = leb-false next n both.0 in
    or_from (n == next) (list_any (λ n. n == next) numbers) (grind arith) (none_there next numbers both.1)

-- a call more leaves a willing desk willing
pub stays_ahead : (fails later : List ℕ) (acts more : List Act) (act : Act) → later ≡ fails → more ≡ acts ++ act ∷ []
    → IsTrue (not (list_any (λ n. nat_le (next_number acts) n) fails)) → IsTrue (not (list_any (λ n. nat_le (next_number more) n) later))
stays_ahead fails later acts more act same longer willing =
    rw (same, longer) (not_from_false _
    (none_higher (next_number acts) (next_number (acts ++ act ∷ [])) fails (omega (arith, length-append acts (act ∷ []))) (not-true _ willing)))

-- and the next call of a willing desk isn't on its list
pub unlisted : (d : NumberedDesk) → IsTrue (none_ahead d) → is_listed d ≡ false
unlisted d willing = none_there (next_number d.acts) d.fails (not-true _ willing)

-- so the call doesn't fail
pub unfailing : (d : NumberedDesk) (fails : List ℕ) (acts : List Act) → fails ≡ d.fails → acts ≡ d.acts → IsTrue (none_ahead d)
    → list_any (λ n. n == next_number acts) fails ≡ true → ⊥
unfailing d fails acts same longer willing listed =
    let none = unlisted d willing in
    let there = rw (same, longer) at listed in
    cc
