-- How the counts of a list grow by one more number.
use Rattle.std.proofs.Common.{ℕ, ◌≡◌, ◌+◌, ◌≤◌, ◌==◌, not, Bool, true, false, cond, List, [], ◌∷◌, ◌++◌, length, map, filter, Option, refl, sym, ap, ⊎_elim}
use Rattle.std.proofs.Common.{◌∙◌, arith, eqb-true}
use Rattle.std.specs.Prelude.{nat_eq}
use Rattle.std.specs.Option.{unwrap_or}
use Rattle.std.specs.Map.{lookup}
use Rattle.std.proofs.lemmas.Bool.{cases_Bool}
use Rattle.std.proofs.lemmas.Bool.Decides.{nat_tests}
use Rattle.std.proofs.lemmas.List.Sums.{sum_by-append, sum_by-cons, count_by-le-length}
use Rattle.std.proofs.lemmas.Map.Entries.{lookup-filter-keys}
use Rattle.indexmap.specs.IndexMap.{insert_entry}
use Rattle.dgn_listing.specs.Counts.{first_seen, times, counts}

-- a number with how often it stands in a list
abbrev tagged : List ℕ → ℕ → ℕ × ℕ
tagged ks k = (k, times k ks)

-- the entries but for one number's
abbrev but : ℕ → List (ℕ × ℕ) → List (ℕ × ℕ)
but k es = filter (λ e. not (k == e.0)) es

-- one number before others, and one behind them
times-cons : (k x : ℕ) (xs : List ℕ) → times k (x ∷ xs) ≡ cond (k == x) 1 0 + times k xs
times-cons k x xs = sum_by-cons (λ other. cond (k == other) 1 0) x xs

times-append : (k x : ℕ) (xs : List ℕ) → times k (xs ++ x ∷ []) ≡ times k xs + (0 + cond (k == x) 1 0)
times-append k x xs = sum_by-append (λ other. cond (k == other) 1 0) xs (x ∷ [])

times-other : (k x : ℕ) (xs : List ℕ) → (k == x) ≡ false → times k (x ∷ xs) ≡ times k xs
times-other k x xs e = times-cons k x xs ∙ rw e (omega arith)

tagged-but : (x : ℕ) (xs fs : List ℕ) → map (tagged (x ∷ xs)) (filter (λ other. not (x == other)) fs) ≡ but x (map (tagged xs) fs)
tagged-but x xs [] = refl
tagged-but x xs (f ∷ fs) =
    let same : (x == f) ≡ true → map (tagged (x ∷ xs)) (filter (λ other. not (x == other)) (f ∷ fs)) ≡ but x (map (tagged xs) (f ∷ fs)) =
    λ e. rw e (tagged-but x xs fs)
    in
    let other : (x == f) ≡ false → map (tagged (x ∷ xs)) (filter (λ other. not (x == other)) (f ∷ fs)) ≡ but x (map (tagged xs) (f ∷ fs)) =
    λ e. let apart : (f == x) ≡ false = grind (arith, nat_tests) in
    rw e (ap (λ (n : ℕ). (f, n) ∷ map (tagged (x ∷ xs)) (filter (λ o. not (x == o)) fs)) (times-other f x xs apart)
    ∙ ap (λ (es : List (ℕ × ℕ)). (f, times f xs) ∷ es) (tagged-but x xs fs))
    in
    ⊎_elim same other (cases_Bool (x == f))

-- the counts of a list are that of its first number, and those of the others
counts-next : (x : ℕ) (xs : List ℕ) → counts (x ∷ xs) ≡ (x, times x (x ∷ xs)) ∷ but x (counts xs)
counts-next x xs = ap (λ (es : List (ℕ × ℕ)). (x, times x (x ∷ xs)) ∷ es) (tagged-but x xs (first_seen xs))

-- a number that is left out may be put in before or not
but-same : (x k v : ℕ) (es : List (ℕ × ℕ)) → (x == k) ≡ true → but x (insert_entry nat_eq es k v) ≡ but x es
but-same x k v [] same = rw same refl
but-same x k v (e ∷ es) same =
    let found : (k == e.0) ≡ true → but x (insert_entry nat_eq (e ∷ es) k v) ≡ but x (e ∷ es) =
    λ h. let here : (x == e.0) ≡ true = grind (arith, nat_tests) in simp (h, here)
    in
    let later : (k == e.0) ≡ false → but x (insert_entry nat_eq (e ∷ es) k v) ≡ but x (e ∷ es) =
    λ h. simp (h, but-same x k v es same)
    in
    ⊎_elim found later (cases_Bool (k == e.0))

-- another number is put in before or after
but-other : (x k v : ℕ) (es : List (ℕ × ℕ)) → (x == k) ≡ false → but x (insert_entry nat_eq es k v) ≡ insert_entry nat_eq (but x es) k v
but-other x k v [] apart = rw apart refl
but-other x k v (e ∷ es) apart =
    let found : (k == e.0) ≡ true → but x (insert_entry nat_eq (e ∷ es) k v) ≡ insert_entry nat_eq (but x (e ∷ es)) k v =
    λ h. let here : (x == e.0) ≡ false = grind (arith, nat_tests) in simp (h, here)
    in
    let left : (k == e.0) ≡ false → (x == e.0) ≡ true → but x (insert_entry nat_eq (e ∷ es) k v) ≡ insert_entry nat_eq (but x (e ∷ es)) k v =
    λ h g. simp (h, g, but-other x k v es apart)
    in
    let kept : (k == e.0) ≡ false → (x == e.0) ≡ false → but x (insert_entry nat_eq (e ∷ es) k v) ≡ insert_entry nat_eq (but x (e ∷ es)) k v =
    λ h g. simp (h, g, but-other x k v es apart)
    in
    ⊎_elim found (λ h. ⊎_elim (left h) (kept h) (cases_Bool (x == e.0))) (cases_Bool (k == e.0))

-- a number that an entry has takes its place, and any other goes on
insert-here : (e : ℕ × ℕ) (es : List (ℕ × ℕ)) (k v : ℕ) → (k == e.0) ≡ true → insert_entry nat_eq (e ∷ es) k v ≡ (e.0, v) ∷ es
insert-here e es k v h = rw h refl

insert-later : (e : ℕ × ℕ) (es : List (ℕ × ℕ)) (k v : ℕ) → (k == e.0) ≡ false → insert_entry nat_eq (e ∷ es) k v ≡ e ∷ insert_entry nat_eq es k v
insert-later e es k v h = rw h refl

-- one more number is counted once more, and a new one stands last
pub counts-more : (ks : List ℕ) (k : ℕ) → counts (ks ++ k ∷ []) ≡ insert_entry nat_eq (counts ks) k (times k ks + 1)
counts-more [] k = let same : (k == k) ≡ true = grind (arith, nat_tests) in rw same refl
counts-more (x ∷ xs) k =
    let whole : counts ((x ∷ xs) ++ k ∷ []) ≡ (x, times x ((x ∷ xs) ++ k ∷ [])) ∷ but x (insert_entry nat_eq (counts xs) k (times k xs + 1)) =
    counts-next x (xs ++ k ∷ []) ∙ ap (λ (es : List (ℕ × ℕ)). (x, times x ((x ∷ xs) ++ k ∷ [])) ∷ but x es) (counts-more xs k)
    in
    let goal = insert_entry nat_eq ((x, times x (x ∷ xs)) ∷ but x (counts xs)) k (times k (x ∷ xs) + 1) in
    let same : (k == x) ≡ true → (x, times x ((x ∷ xs) ++ k ∷ [])) ∷ but x (insert_entry nat_eq (counts xs) k (times k xs + 1)) ≡ goal =
    λ h. let back : (x == k) ≡ true = grind (arith, nat_tests) in
    let is : x ≡ k = sym (eqb-true k x h) in
    let once : times x ((x ∷ xs) ++ k ∷ []) ≡ times k (x ∷ xs) + 1 =
    times-append x k (x ∷ xs) ∙ (ap (λ (b : Bool). times x (x ∷ xs) + (0 + cond b 1 0)) back ∙ ap (λ (j : ℕ). times j (x ∷ xs) + 1) is)
    in
    ap (λ (n : ℕ). (x, n) ∷ but x (insert_entry nat_eq (counts xs) k (times k xs + 1))) once
    ∙ (ap (λ (es : List (ℕ × ℕ)). (x, times k (x ∷ xs) + 1) ∷ es) (but-same x k (times k xs + 1) (counts xs) back)
    ∙ sym (insert-here (x, times x (x ∷ xs)) (but x (counts xs)) k (times k (x ∷ xs) + 1) h))
    in
    let other : (k == x) ≡ false → (x, times x ((x ∷ xs) ++ k ∷ [])) ∷ but x (insert_entry nat_eq (counts xs) k (times k xs + 1)) ≡ goal =
    λ h. let back : (x == k) ≡ false = grind (arith, nat_tests) in
    let as_often : times x ((x ∷ xs) ++ k ∷ []) ≡ times x (x ∷ xs) =
    times-append x k (x ∷ xs) ∙ (ap (λ (b : Bool). times x (x ∷ xs) + (0 + cond b 1 0)) back ∙ omega arith) in
    ap (λ (n : ℕ). (x, n) ∷ but x (insert_entry nat_eq (counts xs) k (times k xs + 1))) as_often
    ∙ (ap (λ (es : List (ℕ × ℕ)). (x, times x (x ∷ xs)) ∷ es) (but-other x k (times k xs + 1) (counts xs) back)
    ∙ (ap (λ (n : ℕ). (x, times x (x ∷ xs)) ∷ insert_entry nat_eq (but x (counts xs)) k (n + 1)) (sym (times-other k x xs h))
    ∙ sym (insert-later (x, times x (x ∷ xs)) (but x (counts xs)) k (times k (x ∷ xs) + 1) h)))
    in
    whole ∙ (⊎_elim same other (cases_Bool (k == x)) ∙ ap (λ (es : List (ℕ × ℕ)). insert_entry nat_eq es k (times k (x ∷ xs) + 1)) (sym (counts-next x xs)))

-- what a look-up finds
lookup-here : (e : ℕ × ℕ) (es : List (ℕ × ℕ)) (k : ℕ) → (k == e.0) ≡ true → unwrap_or (lookup (nat_eq k) (e ∷ es)) 0 ≡ e.1
lookup-here e es k h = rw h refl

lookup-later : (e : ℕ × ℕ) (es : List (ℕ × ℕ)) (k : ℕ) → (k == e.0) ≡ false → unwrap_or (lookup (nat_eq k) (e ∷ es)) 0 ≡ unwrap_or (lookup (nat_eq k) es) 0
lookup-later e es k h = rw h refl

pub lookup-counts : (k : ℕ) (ks : List ℕ) → unwrap_or (lookup (nat_eq k) (counts ks)) 0 ≡ times k ks
lookup-counts k [] = refl
lookup-counts k (x ∷ xs) =
    let found : (k == x) ≡ true → unwrap_or (lookup (nat_eq k) ((x, times x (x ∷ xs)) ∷ but x (counts xs))) 0 ≡ times k (x ∷ xs) =
    λ h. lookup-here (x, times x (x ∷ xs)) (but x (counts xs)) k h ∙ ap (λ (j : ℕ). times j (x ∷ xs)) (sym (eqb-true k x h))
    in
    let other : (k == x) ≡ false → unwrap_or (lookup (nat_eq k) ((x, times x (x ∷ xs)) ∷ but x (counts xs))) 0 ≡ times k (x ∷ xs) =
    λ h. let among : (j : ℕ) → nat_eq k j ≡ true → not (x == j) ≡ true = λ j f. let apart : (x == j) ≡ false = grind (arith, nat_tests) in rw apart refl in
    lookup-later (x, times x (x ∷ xs)) (but x (counts xs)) k h
    ∙ (ap (λ (o : Option ℕ). unwrap_or o 0) (lookup-filter-keys (nat_eq k) (λ j. not (x == j)) true among (counts xs))
    ∙ (lookup-counts k xs ∙ sym (times-other k x xs h)))
    in
    ap (λ (es : List (ℕ × ℕ)). unwrap_or (lookup (nat_eq k) es) 0) (counts-next x xs) ∙ ⊎_elim found other (cases_Bool (k == x))

pub times-few : (k : ℕ) (ks : List ℕ) → times k ks ≤ length ks
times-few k ks = count_by-le-length (λ other. k == other) ks
