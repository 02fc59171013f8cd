-- Laying puts, one and many: what stays, what is restored.
use Rattle.std.proofs.Common.{◌≡◌, ℕ, ◌+◌, ◌-◌, ◌<◌, List, [], ◌∷◌, ◌++◌, length, take, drop, map, get_or, replicate, min, refl, ap, sym, ◌∙◌, subst, inl}
use Rattle.std.proofs.Common.{inr, arith, append_assoc, length-append, length-drop, length-take, drop-drop}
use Rattle.std.proofs.lemmas.List.{take_at, drop_at, take-append-drop, take-append-le, drop-append-le, drop-replicate, same_lists, get_or_append_left}
use Rattle.std.proofs.lemmas.List.{get_or-append_right, get_or-take, get_or-drop}
use Rattle.std.proofs.lemmas.Bool.{cases_lt}
use Rattle.std.specs.List.{AllByRecursion}
use borrow.Rule.Slice.PartMut.{put_mid}
use Rattle.patch_bytes.specs.Puts.{Put, lay, write, write_back, old_of, olds, IsWithin, AreWithin, Holds, IsApart, AreApart}

-- the length stays
pub length-lay : (b : List ℕ) (p : Put) → IsWithin (length b) p → length (lay b p) ≡ length b
unfolding lay
length-lay b p w =
    let e = w.ends in
    simp (length-append, length-take, length-drop) (omega arith)

-- what lies in the bytes lies in them once one is laid
pub within_laid : (b : List ℕ) (p : Put) (ps : List Put) → IsWithin (length b) p → AreWithin (length b) ps → AreWithin (length (lay b p)) ps
within_laid b p ps w ws = subst (λ n. AreWithin n ps) (sym (length-lay b p w)) ws

pub length-write : (b : List ℕ) (ps : List Put) → AreWithin (length b) ps → length (write b ps) ≡ length b
length-write b [] w = refl
length-write b (p ∷ ps) w = length-write (lay b p) ps (within_laid b p ps w.0 w.1) ∙ length-lay b p w.0

pub length-write_back : (b : List ℕ) (ps : List Put) → AreWithin (length b) ps → length (write_back b ps) ≡ length b
length-write_back b [] w = refl
length-write_back b (p ∷ ps) w =
    let rest : length (write_back b ps) ≡ length b = length-write_back b ps w.1 in
    length-lay (write_back b ps) p (subst (λ n. IsWithin n p) (sym rest) w.0) ∙ rest

-- a front, a piece and the rest are the whole
split : (b : List ℕ) (a k : ℕ) → take a b ++ take k (drop a b) ++ drop (a + k) b ≡ b
split b a k =
    rw (append_assoc (take a b) (take k (drop a b)) (drop (a + k) b), ← drop-drop k a b, take-append-drop k (drop a b)) (take-append-drop a b)

-- o laid over x, which is as long, between t and d
over : (t x o d : List ℕ) (n m : ℕ) → length t ≡ n → n + length x ≡ m → take n (t ++ x ++ d) ++ o ++ drop m (t ++ x ++ d) ≡ t ++ o ++ d
over t x o d n m e f =
    let front : take n (t ++ x ++ d) ≡ t = ap (λ r. take n r) (append_assoc t x d) ∙ take_at t (x ++ d) n e in
    let rest : drop m (t ++ x ++ d) ≡ d = drop_at (t ++ x) d m (length-append t x ∙ omega arith) in
    ap (λ r. r ++ o ++ drop m (t ++ x ++ d)) front ∙ ap (λ r. t ++ o ++ r) rest

-- what stands between t and d
mid : (t x d : List ℕ) (n m : ℕ) → length t ≡ n → m ≡ length x → take m (drop n (t ++ x ++ d)) ≡ x
mid t x d n m e f = rw (append_assoc t x d, drop_at t (x ++ d) n e) (take_at x d m (sym f))

-- what stood there, laid again, gives the bytes before
pub lay-old_of : (b : List ℕ) (p : Put) → IsWithin (length b) p → lay (lay b p) (old_of b p) ≡ b
unfolding lay old_of
lay-old_of b p w =
    let e = w.ends in
    over (take p.at b) p.bytes (take (length p.bytes) (drop p.at b)) (drop (p.at + length p.bytes) b) p.at _
    (simp length-take (omega arith)) (simp (length-take, length-drop) (omega arith))
    ∙ split b p.at (length p.bytes)

-- and what stands there then is what was laid
pub old_of-old_of : (b : List ℕ) (p : Put) → IsWithin (length b) p → old_of (lay b p) (old_of b p) ≡ p
unfolding lay old_of
old_of-old_of b p w =
    let e = w.ends in
    let at : List ℕ → Put = λ x. record { at = p.at; bytes = x } in
    ap at (mid (take p.at b) p.bytes (drop (p.at + length p.bytes) b) p.at _ (simp length-take (omega arith)) (simp (length-take, length-drop) (omega arith)))

pub all_restored : (b : List ℕ) (ps : List Put) → AreWithin (length b) ps → write_back (write b ps) (olds b ps) ≡ b
all_restored b [] w = refl
all_restored b (p ∷ ps) w =
    ap (λ c. lay c (old_of b p)) (all_restored (lay b p) ps (within_laid b p ps w.0 w.1)) ∙ lay-old_of b p w.0

-- a byte that is held is that of the put
pub lay_held : (b : List ℕ) (p : Put) (k d : ℕ) → IsWithin (length b) p → Holds p k → get_or (lay b p) k d ≡ get_or p.bytes (k - p.at) d
unfolding lay
lay_held b p k d w held =
    let e = w.ends in
    let from = held.from in
    let below = held.below in
    let t : length (take p.at b) ≡ p.at = simp length-take (omega arith) in
    get_or_append_left (take p.at b ++ p.bytes) (drop (p.at + length p.bytes) b) d k (omega (arith, length-append (take p.at b) p.bytes))
    ∙ get_or-append_right (take p.at b) p.bytes p.at k d t from

-- a byte that is not held stays
pub lay_other : (b : List ℕ) (p : Put) (k d : ℕ) → IsWithin (length b) p → (Holds p k → ⊥) → get_or (lay b p) k d ≡ get_or b k d
unfolding lay
lay_other b p k d w free =
    let e = w.ends in
    let t : length (take p.at b) ≡ p.at = simp length-take (omega arith) in
    let both : length (take p.at b ++ p.bytes) ≡ p.at + length p.bytes = length-append (take p.at b) p.bytes ∙ ap (λ n. n + length p.bytes) t in
    elim (cases_lt k p.at) [
      | inl before ↦
          get_or_append_left (take p.at b ++ p.bytes) (drop (p.at + length p.bytes) b) d k (omega arith)
          ∙ get_or_append_left (take p.at b) p.bytes d k (omega arith)
          ∙ get_or-take p.at b k d before
      | inr from ↦ elim (cases_lt k (p.at + length p.bytes)) [
        | inl below ↦ absurd (free (record { from = from; below = below }))
        | inr past ↦
            get_or-append_right (take p.at b ++ p.bytes) (drop (p.at + length p.bytes) b) _ k d both past
            ∙ get_or-drop (p.at + length p.bytes) b (k - (p.at + length p.bytes)) d
            ∙ ap (λ n. get_or b n d) (omega arith)
      ]
    ]

pub write_other : (b : List ℕ) (ps : List Put) (k d : ℕ) → AreWithin (length b) ps → AllByRecursion (λ p. Holds p k → ⊥) ps
    → get_or (write b ps) k d ≡ get_or b k d
write_other b [] k d w free = refl
write_other b (p ∷ ps) k d w free =
    write_other (lay b p) ps k d (within_laid b p ps w.0 w.1) free.1 ∙ lay_other b p k d w.0 free.0

-- what stands where q is laid is the same once one is laid that shares no byte with it
pub old_of-lay : (b : List ℕ) (p q : Put) → IsWithin (length b) p → IsApart p q → old_of (lay b p) q ≡ old_of b q
unfolding old_of
old_of-lay b p q w a =
    let n : ℕ = length q.bytes in
    let same : length (lay b p) ≡ length b = length-lay b p w in
    let at : List ℕ → Put = λ x. record { at = q.at; bytes = x } in
    ap at (same_lists (take n (drop q.at (lay b p))) (take n (drop q.at b))
    (simp (length-take, length-drop) (ap (λ m. min n (m - q.at)) same))
    (λ k d h.
    let below : k < n = omega (arith, length-take {A = ℕ}) in
    get_or-take n (drop q.at (lay b p)) k d below
    ∙ get_or-drop q.at (lay b p) k d
    ∙ lay_other b p (q.at + k) d w (λ held. a.none (q.at + k) held (record { from = omega arith; below = omega arith }))
    ∙ sym (get_or-drop q.at b k d)
    ∙ sym (get_or-take n (drop q.at b) k d below)))

olds_laid : (b : List ℕ) (p : Put) (ps : List Put) → IsWithin (length b) p → AllByRecursion (IsApart p) ps → map (old_of (lay b p)) ps ≡ map (old_of b) ps
olds_laid b p [] w a = refl
olds_laid b p (q ∷ qs) w a = rw (old_of-lay b p q w a.0, olds_laid b p qs w a.1)

-- where no byte is held twice, what stood there when its turn came stood there from the first
pub olds_are : (b : List ℕ) (ps : List Put) → AreWithin (length b) ps → AreApart ps → olds b ps ≡ map (old_of b) ps
olds_are b [] w a = refl
olds_are b (p ∷ ps) w a =
    ap (λ l. old_of b p ∷ l) (olds_are (lay b p) ps (within_laid b p ps w.0 w.1) a.1 ∙ olds_laid b p ps w.0 a.0)

pub write_back_push : (b : List ℕ) (ps : List Put) (p : Put) → write_back b (ps ++ p ∷ []) ≡ write_back (lay b p) ps
write_back_push b [] p = refl
write_back_push b (q ∷ qs) p = ap (λ c. lay c q) (write_back_push b qs p)

pub write-append : (b : List ℕ) (ps qs : List Put) → write b (ps ++ qs) ≡ write (write b ps) qs
write-append b [] qs = refl
write-append b (p ∷ ps) qs = write-append (lay b p) ps qs

-- what is laid in a front part of the bytes leaves what is behind it
pub lay_front : (b more : List ℕ) (p : Put) → IsWithin (length b) p → lay (b ++ more) p ≡ lay b p ++ more
unfolding lay
lay_front b more p w =
    let e = w.ends in
    rw (take-append-le p.at b more (omega arith), drop-append-le (p.at + length p.bytes) b more e)
    (sym (append_assoc (take p.at b ++ p.bytes) (drop (p.at + length p.bytes) b) more))

pub write_front : (b more : List ℕ) (ps : List Put) → AreWithin (length b) ps → write (b ++ more) ps ≡ write b ps ++ more
write_front b more [] w = refl
write_front b more (p ∷ ps) w =
    ap (λ c. write c ps) (lay_front b more p w.0) ∙ write_front (lay b p) more ps (within_laid b p ps w.0 w.1)

-- what stood there lies in the same bytes
pub within-old_of : (b : List ℕ) (p : Put) (n : ℕ) → IsWithin n p → IsWithin n (old_of b p)
unfolding old_of
within-old_of b p n w = let e = w.ends in record { ends = simp length-take (omega arith) }

pub within-map_old_of : (b : List ℕ) (ps : List Put) (n : ℕ) → AreWithin n ps → AreWithin n (map (old_of b) ps)
within-map_old_of b [] n w = tt
within-map_old_of b (p ∷ ps) n w = (within-old_of b p n w.0, within-map_old_of b ps n w.1)

-- a write to a part of a slice is a put laid
pub put_mid-lay : (b x y : List ℕ) (a k : ℕ) → y ≡ x → k ≡ length x → put_mid a k b y ≡ lay b (record { at = a; bytes = x })
unfolding lay
put_mid-lay b x y a k e l = rw (e, l, drop-drop (length x) a b) (sym (append_assoc (take a b) x (drop (a + length x) b)))

-- l bytes and then zeros, four in all, are zeros from l on
pub zeros_behind : (x : List ℕ) (l n : ℕ) → length x ≡ l → n ≡ l → drop l (x ++ drop n (0 ∷ 0 ∷ 0 ∷ 0 ∷ [])) ≡ replicate (4 - l) 0
zeros_behind x l n e f = rw (drop_at x (drop n (0 ∷ 0 ∷ 0 ∷ 0 ∷ [])) l e, f) (drop-replicate l 4 0)

-- the first l of some bytes x and more, where x are the first n of y
pub old_bytes : (x more y : List ℕ) (n l m : ℕ) → x ≡ take n y → length x ≡ l → n ≡ m → take l (x ++ more) ≡ take m y
old_bytes x more y n l m e f g = take_at x more l f ∙ e ∙ ap (λ k. take k y) g

-- four numbers, named one by one
pub four_named : (l : List ℕ) → length l ≡ 4 → get_or l 0 0 ∷ get_or l 1 0 ∷ get_or l 2 0 ∷ get_or l 3 0 ∷ [] ≡ l
four_named [] h = cc
four_named (a ∷ []) h = cc
four_named (a ∷ b ∷ []) h = cc
four_named (a ∷ b ∷ c ∷ []) h = cc
four_named (a ∷ b ∷ c ∷ d ∷ []) h = refl
four_named (a ∷ b ∷ c ∷ d ∷ e ∷ l) h = cc
