-- What is read is spelled so: each reader took its spelling from the front.
use Rattle.std.proofs.Common.{◌≡◌, ℕ, zero, suc, ◌+◌, ◌^◌, ◌<◌, ◌≤◌, cond, ltb, eqb, List, [], ◌∷◌, ◌++◌, length, get_or, take, drop, Ok, Err, refl, sym}
use Rattle.std.proofs.Common.{ap, subst, ◌∙◌, append_assoc, arith, inl, inr}
use Rattle.std.specs.List.{flat_map, AllByRecursion, starts_with}
use Rattle.std.specs.Int.{w32, from_le_bytes}
use Rattle.std.proofs.lemmas.Bool.{cases_lt, ltb-false, eqb-true}
use Rattle.std.proofs.lemmas.List.{take-append-drop, length-take, get_or-take, get_or_past, append-nil, nil_from_length}
use Rattle.std.proofs.lemmas.List.Concat.{flat_map-cons}
use Rattle.std.proofs.lemmas.Nat.{le_bytes_4}
use Rattle.std.proofs.lemmas.Slice.Eq.{starts_is}
use Rattle.std.proofs.lemmas.Bool.Decides.{Decides-eqb}
use Rattle.patch_file.specs.Exchanges.{Exchange}
use Rattle.patch_file.specs.Spelling.{Packed, mark, number, field_spelling, head_spelling, entry_spelling, patch_spelling, IsEntry, AreEntries}
use Rattle.patch_file.specs.Reading.{◌>>=◌, bytes_at, number_at, byte_at, mark_at, head_at, field_at, fields_at, entry_at, entries_at, patch_of}
use Rattle.patch_file.proofs.ReadSteps.{bind_ok, guard_ok, pass_ok, ok_is}
use Rattle.patch_file.proofs.FieldRules.{bytes_take, field_parts, fields_parts, fields_none, fields_rules}

abbrev pub IsBytes : List ℕ → Type 0
IsBytes bytes = (i : ℕ) → get_or bytes i 0 < 256

IsBytes-take : (n : ℕ) (bytes : List ℕ) → IsBytes bytes → IsBytes (take n bytes)
IsBytes-take n bytes h i =
    elim (cases_lt i n) [
      | inl lt ↦ rw (get_or-take n bytes i 0 lt) (h i)
      | inr le ↦ rw (get_or_past (take n bytes) i 0 (omega (arith, length-take n bytes))) (omega arith)
    ]

-- what stands behind a part is bytes too
IsBytes-behind : (front rest : List ℕ) → IsBytes (front ++ rest) → IsBytes rest
IsBytes-behind [] rest h = h
IsBytes-behind (b ∷ front) rest h = IsBytes-behind front rest (λ i. h (suc i))

-- what a reader took from the front
pub record Takes (bytes text rest : List ℕ) : Type 0 where
  pub parts : bytes ≡ text ++ rest
  pub fits : IsBytes rest

taken : (bytes text rest : List ℕ) → IsBytes bytes → bytes ≡ text ++ rest → Takes bytes text rest
taken bytes text rest fits parts = record { parts = parts; fits = IsBytes-behind text rest (subst IsBytes parts fits) }

Takes-then : (a x b y c : List ℕ) → Takes a x b → Takes b y c → Takes a (x ++ y) c
Takes-then a x b y c p q = record { parts = p.parts ∙ ap (λ (t : List ℕ). x ++ t) q.parts ∙ sym (append_assoc x y c); fits = q.fits }

pub number_takes : (left : ℕ) (bytes : List ℕ) (x : ℕ × List ℕ) → IsBytes bytes → number_at left bytes ≡ Ok x → Takes bytes (number x.0) x.1 × (x.0 < 2 ^ 32)
unfolding number
number_takes left bytes x fits e =
    let g = guard_ok (ltb (length bytes) 4) left (from_le_bytes w32 (take 4 bytes), drop 4 bytes) x e in
    let long : 4 ≤ length bytes = ltb-false _ _ g.0 in
    let front : IsBytes (take 4 bytes) = IsBytes-take 4 bytes fits in
    let same : number (from_le_bytes w32 (take 4 bytes)) ≡ take 4 bytes = le_bytes_4 (take 4 bytes) _ (omega (arith, length-take 4 bytes)) front refl in
    let parts : bytes ≡ number (from_le_bytes w32 (take 4 bytes)) ++ drop 4 bytes =
    sym (ap (λ (t : List ℕ). t ++ drop 4 bytes) same ∙ take-append-drop 4 bytes) in
    let small : from_le_bytes w32 (take 4 bytes) < 2 ^ 32 = omega (arith, front 0, front 1, front 2, front 3) in
    subst (λ (y : ℕ × List ℕ). Takes bytes (number y.0) y.1 × (y.0 < 2 ^ 32)) g.1 (taken bytes _ _ fits parts, small)

pub byte_takes : (left : ℕ) (bytes : List ℕ) (x : ℕ × List ℕ) → byte_at left bytes ≡ Ok x → bytes ≡ x.0 ∷ x.1
byte_takes left [] x e = absurd cc
byte_takes left (b ∷ rest) x e =
    let made : ℕ × List ℕ = (b, rest) in ap (λ (y : ℕ × List ℕ). y.0 ∷ y.1) (ok_is made x e)

part_takes : (left n : ℕ) (bytes : List ℕ) (x : List ℕ × List ℕ) → IsBytes bytes → bytes_at left n bytes ≡ Ok x → Takes bytes x.0 x.1 × (length x.0 ≡ n)
part_takes left n bytes x fits e =
    let p = bytes_take left n bytes x e in (taken bytes x.0 x.1 fits p.parts, p.long)

pub field_takes : (from len : ℕ) (bytes : List ℕ) (x : Exchange × List ℕ) → IsBytes bytes → field_at from len bytes ≡ Ok x
    → Takes bytes (field_spelling x.0) x.1
field_takes from len bytes x fits e =
    let p = field_parts from len bytes x e in
    let place = number_takes (length bytes) bytes p.place fits p.number in
    let byte : p.place.1 ≡ p.count.0 ∷ p.count.1 = byte_takes (length bytes) p.place.1 p.count p.byte in
    let x' = p.exchange in
    let was : p.count.0 ∷ p.count.1 ≡ length x.0.was ∷ ((x.0.was ++ x.0.put) ++ x.1) = rw (x'.long, x'.parts) refl in
    let rest : Takes p.place.1 (length x.0.was ∷ (x.0.was ++ x.0.put)) x.1 =
    taken p.place.1 (length x.0.was ∷ (x.0.was ++ x.0.put)) x.1 place.0.fits (byte ∙ was) in
    rw x'.place (Takes-then bytes (number p.place.0) p.place.1 (length x.0.was ∷ (x.0.was ++ x.0.put)) x.1 place.0 rest)

pub fields_take : (from len n : ℕ) (bytes : List ℕ) (x : List Exchange × List ℕ) → IsBytes bytes → fields_at from len n bytes ≡ Ok x
    → Takes bytes (flat_map field_spelling x.0) x.1 × (length x.0 ≡ n)
fields_take from len zero bytes x fits e = rw (fields_none from len bytes x e) (taken bytes [] bytes fits refl, refl)
fields_take from len (suc n) bytes x fits e =
    let p = fields_parts from len n bytes x e in
    let first = field_takes from len bytes p.first fits p.one in
    let second = fields_take (p.first.0.at + length p.first.0.was) len n p.first.1 p.others first.fits p.more in
    let both = Takes-then bytes (field_spelling p.first.0) p.first.1 (flat_map field_spelling p.others.0) p.others.1 first second.0 in
    rw p.both (rw flat_map-cons both, ap suc second.1)

pub head_takes : (bytes : List ℕ) (x : (ℕ × ℕ × ℕ) × List ℕ) → IsBytes bytes → head_at bytes ≡ Ok x → Takes bytes (head_spelling x.0.0 x.0.1 x.0.2) x.1
    × (x.0.0 < 2 ^ 32) × (x.0.1 < 2 ^ 32) × (x.0.2 < 2 ^ 32)
unfolding head_at
head_takes bytes x fits e =
    let left : ℕ = length bytes in
    let a = bind_ok (number_at left bytes)
    (λ len. number_at left len.1 >>= λ fields. number_at left fields.1 >>= λ append. Ok ((len.0, fields.0, append.0), append.1)) x e in
    let b = bind_ok (number_at left a.0.1) (λ fields. number_at left fields.1 >>= λ append. Ok ((a.0.0, fields.0, append.0), append.1)) x a.2 in
    let c = bind_ok (number_at left b.0.1) (λ append. Ok ((a.0.0, b.0.0, append.0), append.1)) x b.2 in
    let t0 = number_takes left bytes a.0 fits a.1 in
    let t1 = number_takes left a.0.1 b.0 t0.0.fits b.1 in
    let t2 = number_takes left b.0.1 c.0 t1.0.fits c.1 in
    let e12 = Takes-then a.0.1 (number b.0.0) b.0.1 (number c.0.0) c.0.1 t1.0 t2.0 in
    let e02 = Takes-then bytes (number a.0.0) a.0.1 (number b.0.0 ++ number c.0.0) c.0.1 t0.0 e12 in
    let made : (ℕ × ℕ × ℕ) × List ℕ = ((a.0.0, b.0.0, c.0.0), c.0.1) in
    rw (← ok_is made x c.2) (e02, t0.1, t1.1, t2.1)

pub entry_takes : (bytes : List ℕ) (x : Packed × List ℕ) → IsBytes bytes → entry_at bytes ≡ Ok x → Takes bytes (entry_spelling x.0) x.1 × IsEntry x.0
unfolding entry_at
entry_takes bytes x fits e =
    let a = bind_ok (head_at bytes)
    (λ head. fields_at 0 head.0.0 head.0.1 head.1 >>= λ fields. bytes_at (length fields.1) head.0.2 fields.1 >>= λ append. Ok
    (record { len = head.0.0; fields = fields.0; append = append.0 }, append.1)) x e in
    let b = bind_ok (fields_at 0 a.0.0.0 a.0.0.1 a.0.1)
    (λ fields. bytes_at (length fields.1) a.0.0.2 fields.1 >>= λ append. Ok (record { len = a.0.0.0; fields = fields.0; append = append.0 }, append.1))
    x a.2 in
    let c = bind_ok (bytes_at (length b.0.1) a.0.0.2 b.0.1) (λ append. Ok (record { len = a.0.0.0; fields = b.0.0; append = append.0 }, append.1)) x b.2 in
    let t0 = head_takes bytes a.0 fits a.1 in
    let t1 = fields_take 0 a.0.0.0 a.0.0.1 a.0.1 b.0 t0.0.fits b.1 in
    let t2 = part_takes (length b.0.1) a.0.0.2 b.0.1 c.0 t1.0.fits c.1 in
    let e12 = Takes-then a.0.1 (flat_map field_spelling b.0.0) b.0.1 c.0.0 c.0.1 t1.0 t2.0 in
    let e02 = Takes-then bytes (head_spelling a.0.0.0 a.0.0.1 a.0.0.2) a.0.1 (flat_map field_spelling b.0.0 ++ c.0.0) c.0.1 t0.0 e12 in
    let whole : Takes bytes (head_spelling a.0.0.0 (length b.0.0) (length c.0.0) ++ (flat_map field_spelling b.0.0 ++ c.0.0)) c.0.1 = rw (t1.1, t2.1) e02 in
    let made : Packed × List ℕ = (record { len = a.0.0.0; fields = b.0.0; append = c.0.0 }, c.0.1) in
    rw (← ok_is made x c.2) (whole, record { len = t0.1; append = rw t2.1 t0.3; rules = fields_rules 0 a.0.0.0 a.0.0.1 a.0.1 b.0 b.1 })

pub entries_take : (n : ℕ) (bytes : List ℕ) (x : List Packed × List ℕ) → IsBytes bytes → entries_at n bytes ≡ Ok x
    → Takes bytes (flat_map entry_spelling x.0) x.1 × (length x.0 ≡ n) × AllByRecursion IsEntry x.0
unfolding entries_at
entries_take zero bytes x fits e =
    let made : List Packed × List ℕ = ([], bytes) in
    rw (← ok_is made x e) (taken bytes [] bytes fits refl, refl, tt)
entries_take (suc n) bytes x fits e =
    let a = bind_ok (entry_at bytes) (λ first. entries_at n first.1 >>= λ others. Ok (first.0 ∷ others.0, others.1)) x e in
    let b = bind_ok (entries_at n a.0.1) (λ others. Ok (a.0.0 ∷ others.0, others.1)) x a.2 in
    let first = entry_takes bytes a.0 fits a.1 in
    let second = entries_take n a.0.1 b.0 first.0.fits b.1 in
    let both = Takes-then bytes (entry_spelling a.0.0) a.0.1 (flat_map entry_spelling b.0.0) b.0.1 first.0 second.0 in
    let made : List Packed × List ℕ = (a.0.0 ∷ b.0.0, b.0.1) in
    rw (← ok_is made x b.2) (rw flat_map-cons both, ap suc second.1, (first.1, second.2))

pub mark_takes : (bytes rest : List ℕ) → IsBytes bytes → mark_at bytes ≡ Ok rest → Takes bytes mark rest
mark_takes bytes rest fits e =
    let p = pass_ok (starts_with eqb bytes mark) (length bytes) (Ok (drop 8 bytes)) rest e in
    let parts : bytes ≡ mark ++ drop 8 bytes = (starts_is Decides-eqb bytes mark (starts_with eqb bytes mark) refl).0 p.0 in
    subst (Takes bytes mark) (ok_is (drop 8 bytes) rest p.1) (taken bytes mark (drop 8 bytes) fits parts)

pub patch_takes : (bytes : List ℕ) (es : List Packed) → IsBytes bytes → patch_of bytes ≡ Ok es → AreEntries es × (bytes ≡ patch_spelling es)
unfolding patch_of
patch_takes bytes es fits e =
    let m = bind_ok (mark_at bytes)
    (λ rest. number_at (length rest) rest >>= λ count. entries_at count.0 count.1 >>= λ x. cond (eqb (length x.1) 0) (Ok x.0) (Err (length x.1))) es e in
    let a = bind_ok (number_at (length m.0) m.0) (λ count. entries_at count.0 count.1 >>= λ x. cond (eqb (length x.1) 0) (Ok x.0) (Err (length x.1))) es m.2 in
    let b = bind_ok (entries_at a.0.0 a.0.1) (λ x. cond (eqb (length x.1) 0) (Ok x.0) (Err (length x.1))) es a.2 in
    let g = pass_ok (eqb (length b.0.1) 0) (length b.0.1) (Ok b.0.0) es b.2 in
    let t0 = mark_takes bytes m.0 fits m.1 in
    let t1 = number_takes (length m.0) m.0 a.0 t0.fits a.1 in
    let t2 = entries_take a.0.0 a.0.1 b.0 t1.0.fits b.1 in
    let nothing : b.0.1 ≡ [] = nil_from_length b.0.1 (eqb-true _ _ g.0) in
    let e12 = Takes-then m.0 (number a.0.0) a.0.1 (flat_map entry_spelling b.0.0) b.0.1 t1.0 t2.0 in
    let both = (Takes-then bytes mark m.0 (number a.0.0 ++ flat_map entry_spelling b.0.0) b.0.1 t0 e12).parts in
    let text : List ℕ = mark ++ (number a.0.0 ++ flat_map entry_spelling b.0.0) in
    let whole : bytes ≡ patch_spelling b.0.0 = rw t2.1 (both ∙ ap (λ (r : List ℕ). text ++ r) nothing ∙ append-nil text) in
    rw (← ok_is b.0.0 es g.1) (record { count = rw t2.1 t1.1; each = t2.2 }, whole)
