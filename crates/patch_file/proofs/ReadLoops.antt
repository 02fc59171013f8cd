-- Reading fields and entries one after the other, as a loop does.
use Rattle.std.proofs.Common.{◌≡◌, ℕ, suc, ◌-◌, ◌+◌, ◌≤◌, ◌<◌, List, [], ◌∷◌, ◌++◌, length, Result, Ok, Err, refl, sym, ap, ◌∙◌, append_assoc, arith}
use Rattle.std.proofs.lemmas.List.{append-nil}
use Rattle.patch_file.specs.declared.stop.Stop.{Stop}
use Rattle.patch_file.specs.declared.stop.Stop.TheVariants.{Bad}
use Rattle.patch_file.specs.declared.stop.Stop.TheVariants as stop
use Rattle.patch_file.specs.Exchanges.{Exchange}
use Rattle.patch_file.specs.Spelling.{Packed}
use Rattle.patch_file.specs.Answers.{Stops}
use Rattle.patch_file.specs.Reading.{◌>>=◌, field_at, fields_at, entry_at, entries_at}

-- what was read before, and what is still read
abbrev pub with_front : {X : Type 0} → List X → Result (List X × List ℕ) ℕ → Result (List X × List ℕ) ℕ
with_front front read = read >>= λ x. Ok (front ++ x.0, x.1)

regroup : {X : Type 0} (front : List X) (n : X) (read : Result (List X × List ℕ) ℕ)
    → with_front front (read >>= λ x. Ok (n ∷ x.0, x.1)) ≡ with_front (front ++ n ∷ []) read
regroup {X} front n (Ok x) = ap (λ (ns : List X). Ok (ns, x.1)) (simp append_assoc)
regroup front n (Err f) = refl

pub fields_go_on : (front : List Exchange) (len count i from : ℕ) (bytes : List ℕ) (n : Exchange) (after : List ℕ)
    (total : Result (List Exchange × List ℕ) ℕ) → i < count → field_at from len bytes ≡ Ok (n, after)
    → with_front front (fields_at from len (count - i) bytes) ≡ total
    → with_front (front ++ n ∷ []) (fields_at (n.at + length n.was) len (count - (i + 1)) after) ≡ total
unfolding fields_at
fields_go_on front len count i from bytes n after total lt h so_far =
    let k : count - i ≡ suc (count - (i + 1)) = omega arith in
    let one : with_front front (fields_at from len (count - i) bytes)
    ≡ with_front (front ++ n ∷ []) (fields_at (n.at + length n.was) len (count - (i + 1)) after) =
    rw (k, h) (regroup front n (fields_at (n.at + length n.was) len (count - (i + 1)) after)) in
    sym one ∙ so_far

pub fields_stop : (e : Stop) (front : List Exchange) (len count i from : ℕ) (bytes : List ℕ) (total : Result (List Exchange × List ℕ) ℕ) → i < count
    → Stops e (field_at from len bytes)
    → with_front front (fields_at from len (count - i) bytes) ≡ total → Stops e total
unfolding fields_at
fields_stop stop.Memory front len count i from bytes total lt h so_far = tt
fields_stop (Bad f) front len count i from bytes total lt h so_far =
    let k : count - i ≡ suc (count - (i + 1)) = omega arith in
    let one : with_front front (fields_at from len (count - i) bytes) ≡ Err f = rw (k, h) refl in
    sym so_far ∙ one

pub fields_done : (front : List Exchange) (len count i from : ℕ) (bytes : List ℕ) (total : Result (List Exchange × List ℕ) ℕ) → count ≤ i
    → with_front front (fields_at from len (count - i) bytes) ≡ total → total ≡ Ok (front, bytes)
unfolding fields_at
fields_done front len count i from bytes total le so_far =
    let k : count - i ≡ 0 = omega arith in
    let one : with_front front (fields_at from len (count - i) bytes) ≡ Ok (front, bytes) =
    rw k (ap (λ (ns : List Exchange). Ok (ns, bytes)) (append-nil front)) in
    sym so_far ∙ one

pub entries_go_on : (front : List Packed) (count i : ℕ) (bytes : List ℕ) (n : Packed) (after : List ℕ) (total : Result (List Packed × List ℕ) ℕ) → i < count
    → entry_at bytes ≡ Ok (n, after)
    → with_front front (entries_at (count - i) bytes) ≡ total → with_front (front ++ n ∷ []) (entries_at (count - (i + 1)) after) ≡ total
unfolding entries_at
entries_go_on front count i bytes n after total lt h so_far =
    let k : count - i ≡ suc (count - (i + 1)) = omega arith in
    let one : with_front front (entries_at (count - i) bytes) ≡ with_front (front ++ n ∷ []) (entries_at (count - (i + 1)) after) =
    rw (k, h) (regroup front n (entries_at (count - (i + 1)) after)) in
    sym one ∙ so_far

pub entries_stop : (e : Stop) (front : List Packed) (count i : ℕ) (bytes : List ℕ) (total : Result (List Packed × List ℕ) ℕ) → i < count
    → Stops e (entry_at bytes)
    → with_front front (entries_at (count - i) bytes) ≡ total → Stops e total
unfolding entries_at
entries_stop stop.Memory front count i bytes total lt h so_far = tt
entries_stop (Bad f) front count i bytes total lt h so_far =
    let k : count - i ≡ suc (count - (i + 1)) = omega arith in
    let one : with_front front (entries_at (count - i) bytes) ≡ Err f = rw (k, h) refl in
    sym so_far ∙ one

pub entries_done : (front : List Packed) (count i : ℕ) (bytes : List ℕ) (total : Result (List Packed × List ℕ) ℕ) → count ≤ i
    → with_front front (entries_at (count - i) bytes) ≡ total → total ≡ Ok (front, bytes)
unfolding entries_at
entries_done front count i bytes total le so_far =
    let k : count - i ≡ 0 = omega arith in
    let one : with_front front (entries_at (count - i) bytes) ≡ Ok (front, bytes) = rw k (ap (λ (ns : List Packed). Ok (ns, bytes)) (append-nil front)) in
    sym so_far ∙ one
