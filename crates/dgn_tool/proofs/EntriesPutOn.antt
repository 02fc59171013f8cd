-- What patch entries make of a body, one after the other.
use Rattle.std.proofs.Common.{◌≡◌, ℕ, ◌+◌, ◌<◌, ◌≤◌, Bool, true, false, cond, Err, List, [], ◌∷◌, length, map, drop, take, refl, sym, ap, ◌∙◌, subst}
use Rattle.std.proofs.Common.{arith, length-append}
use Rattle.std.specs.Prelude.{◌==◌, not, nat_lt}
use Rattle.std.specs.List.{list_all, AllByRecursion}
use Rattle.std.proofs.lemmas.Bool.{false_from_ne_true}
use Rattle.std.proofs.lemmas.Bool.Decides.{Decides-and, Decides-like, Decides-eqb, nat_tests}
use Rattle.std.proofs.lemmas.Slice.Eq.{bytes_eq-Decides}
use Rattle.std.specs.Bool.{Decides}
use Rattle.patch_bytes.specs.Puts.{write, AreWithin}
use Rattle.patch_bytes.proofs.PutsLaid.{length-write}
use Rattle.patch_file.proofs.Puts.{news_within}
use Rattle.patch_file.specs.declared.patch_entry.PatchEntry.{PatchEntry}
use Rattle.patch_file.specs.Exchanges.{Exchange}
use Rattle.patch_file.specs.Spelling.{Packed}
use Rattle.patch_file.specs.PatchView.{packed_of}
use Rattle.patch_file.specs.Standing.{HoldsOld, Stands, new_of, put_on}
use Rattle.dgn_drawing.specs.declared.limits.TheConstants.{MOST_DESIGN}
use Rattle.dgn_tool.specs.Applied.{holds_old, does_stand, Patched, Made, Differs, Overruns, put_from, Puts}
use Rattle.dgn_tool.specs.declared.put_end.PutEnd.{PutEnd}
use Rattle.dgn_tool.specs.declared.put_end.PutEnd.TheVariants as ends

-- the test tells whether an entry stands
all_hold : (b : List ℕ) (fs : List Exchange) → Decides (list_all (holds_old b) fs) (AllByRecursion (HoldsOld b) fs)
all_hold b [] = (λ _. tt, λ _. refl)
all_hold b (f ∷ fs) =
    Decides-and (holds_old b f) (list_all (holds_old b) fs) (bytes_eq-Decides (take (length f.was) (drop f.at b)) f.was) (all_hold b fs)

pub stands_decided : (b : List ℕ) (e : Packed) → Decides (does_stand b e) (Stands b e)
stands_decided b e =
    Decides-like (does_stand b e) (λ h. record { long = h.0; fields = h.1 }) (λ s. (s.long, s.fields))
    (Decides-and (length b == e.len) (list_all (holds_old b) e.fields) (Decides-eqb (length b) e.len) (all_hold b e.fields))

-- one that doesn't stand
pub differs : (tail k : ℕ) (b : List ℕ) (e : Packed) (es : List Packed) → ¬ Stands b e → put_from tail k b (e ∷ es) ≡ Differs k
differs tail k b e es not_so =
    let test : does_stand b e ≡ false = false_from_ne_true _ (λ t. not_so ((stands_decided b e).0 t)) in
    rw test refl

-- one that stands, and with which the drawing gets too long
pub overruns : (tail k : ℕ) (b : List ℕ) (e : Packed) (es : List Packed) → Stands b e → MOST_DESIGN < length (put_on b e) + tail
    → put_from tail k b (e ∷ es) ≡ Overruns
overruns tail k b e es so long =
    let test : does_stand b e ≡ true = (stands_decided b e).1 so in
    let too : nat_lt MOST_DESIGN (length (put_on b e) + tail) ≡ true = grind (arith, nat_tests) in
    rw (test, too) refl

-- one that stands, and keeps the limit
pub goes_on : (tail k : ℕ) (b : List ℕ) (e : Packed) (es : List Packed) → Stands b e → length (put_on b e) + tail ≤ MOST_DESIGN
    → put_from tail k b (e ∷ es) ≡ put_from tail (k + 1) (put_on b e) es
goes_on tail k b e es so few =
    let test : does_stand b e ≡ true = (stands_decided b e).1 so in
    let fits : nat_lt MOST_DESIGN (length (put_on b e) + tail) ≡ false = grind (arith, nat_tests) in
    rw (test, fits) refl

-- what one entry makes, others behind it go on with
stepped : (x y : Bool) (k : ℕ) (b b' : List ℕ) (rest : List ℕ → Patched) → cond (not x) (Differs k) (cond y Overruns (Made b)) ≡ Made b'
    → cond (not x) (Differs k) (cond y Overruns (rest b)) ≡ rest b'
stepped true true k b b' rest e = absurd (cc)
stepped true false k b b' rest e = let same : b ≡ b' = cc in ap rest same
stepped false y k b b' rest e = absurd (cc)

-- where one entry ends it, none behind it is put on
ended : (x y : Bool) (k : ℕ) (b now : List ℕ) (rest : Patched) (end : PutEnd) → Puts (Err end) (cond (not x) (Differs k) (cond y Overruns (Made b))) now
    → Puts (Err end) (cond (not x) (Differs k) (cond y Overruns rest)) now
ended true true k b now rest end puts = puts
ended true false k b now rest (ends.Refused number) puts = absurd (let x = puts in cc)
ended true false k b now rest ends.TooLong puts = absurd (let x = puts in cc)
ended true false k b now rest ends.Memory puts = tt
ended false y k b now rest end puts = puts

-- how long a body is with an entry on it
pub length-put_on : (b : List ℕ) (e : PatchEntry) → Stands b (packed_of e) → length (put_on b (packed_of e)) ≡ length b + length e.append
length-put_on b e so =
    let within : AreWithin (length b) (map new_of e.fields) =
    subst (λ n. AreWithin n (map new_of e.fields)) (sym so.long) (news_within 0 e.len e.fields e.rules) in
    length-append (write b (map new_of e.fields)) e.append ∙ ap (λ (n : ℕ). n + length e.append) (length-write b (map new_of e.fields) within)
