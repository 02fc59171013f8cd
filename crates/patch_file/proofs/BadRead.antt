-- Where reading stops, a piece is bad.
use Rattle.std.proofs.Common.{◌≡◌, ℕ, zero, suc, ◌+◌, ◌*◌, ◌<◌, ◌≤◌, Bool, true, false, cond, ltb, eqb, List, [], ◌∷◌, ◌++◌, length, take, drop}
use Rattle.std.proofs.Common.{Result, Ok, Err, refl, sym, ap, ◌∙◌, append_assoc, arith, inl, inr, length-drop}
use Rattle.std.specs.Prelude.{◌⊎◌}
use Rattle.std.specs.List.{flat_map, starts_with}
use Rattle.std.specs.Int.{w32, from_le_bytes}
use Rattle.std.proofs.lemmas.Bool.{le-leb, and_from, ltb-true, ltb-false, eqb-false}
use Rattle.std.proofs.lemmas.List.{length-append}
use Rattle.std.proofs.lemmas.List.Concat.{flat_map-cons}
use Rattle.std.proofs.lemmas.Slice.Eq.{starts_is}
use Rattle.std.proofs.lemmas.Bool.Decides.{Decides-eqb}
use Rattle.patch_file.specs.Exchanges.{Exchange, AllKeepRules}
use Rattle.patch_file.specs.Spelling.{mark, number, field_spelling, entry_spelling}
use Rattle.patch_file.specs.Reading.{◌>>=◌, bytes_at, number_at, byte_at, mark_at, head_at}
use Rattle.patch_file.specs.Reading.{keeps_rules, exchange_at, field_at, fields_at, entry_at, entries_at, patch_of}
use Rattle.patch_file.specs.BadPieces.{FieldNumbers, FitRules, IsBadField, NumbersCut, BreaksRules, BytesCut, end_after, HeadStands}
use Rattle.patch_file.specs.BadPieces.{IsBadEntry, HeadCut, FieldBad, AppendCut, EntriesStand, CountStands, IsBad, MarkBad, CountCut, EntryBad, BytesBehind}
use Rattle.patch_file.proofs.ReadSteps.{guard_ok}
use Rattle.patch_file.proofs.FieldRules.{bytes_take, field_rules, fields_rules}
use Rattle.patch_file.proofs.ReadSpellings.{IsBytes, number_takes, byte_takes, field_takes, fields_take, head_takes, entry_takes, entries_take, mark_takes}

-- where a reading stopped, either its first part did or what follows
bind_err : {A B : Type 0} (r : Result A ℕ) (f : A → Result B ℕ) (left : ℕ) → (r >>= f) ≡ Err left → (r ≡ Err left) ⊎ ((x : A) × (r ≡ Ok x) × (f x ≡ Err left))
bind_err (Ok x) f left e = inr (x, refl, e)
bind_err (Err d) f left e = inl (let same = e in cc)

-- a test that stopped
test_err : {A : Type 0} (b : Bool) (d left : ℕ) (x : A) → cond b (Err d) (Ok x) ≡ Err left → (b ≡ true) × (left ≡ d)
test_err true d left x e = (refl, cc)
test_err false d left x e = absurd cc

number_err : (at left : ℕ) (bytes : List ℕ) → number_at at bytes ≡ Err left → (length bytes < 4) × (left ≡ at)
number_err at left bytes e =
    let g = test_err (ltb (length bytes) 4) at left (from_le_bytes w32 (take 4 bytes), drop 4 bytes) e in (ltb-true _ _ g.0, g.1)

byte_err : (at left : ℕ) (bytes : List ℕ) → byte_at at bytes ≡ Err left → (length bytes ≡ 0) × (left ≡ at)
byte_err at left [] e = (refl, cc)
byte_err at left (b ∷ bytes) e = absurd cc

bytes_err : (at left n : ℕ) (bytes : List ℕ) → bytes_at at n bytes ≡ Err left → (length bytes < n) × (left ≡ at)
bytes_err at left n bytes e = let g = test_err (ltb (length bytes) n) at left (take n bytes, drop n bytes) e in (ltb-true _ _ g.0, g.1)

-- a number that was read has four bytes
four : (at : ℕ) (bytes : List ℕ) (x : ℕ × List ℕ) → number_at at bytes ≡ Ok x → length bytes ≡ 4 + length x.1
four at bytes x e =
    let g = guard_ok (ltb (length bytes) 4) at (from_le_bytes w32 (take 4 bytes), drop 4 bytes) x e in
    let long : 4 ≤ length bytes = ltb-false _ _ g.0 in
    let rest : length (drop 4 bytes) ≡ length x.1 = ap (λ (y : ℕ × List ℕ). length y.1) g.1 in
    omega (arith, length-drop 4 bytes)

head_err : (bytes : List ℕ) (left : ℕ) → head_at bytes ≡ Err left → (length bytes < 12) × (left ≡ length bytes)
unfolding head_at
head_err bytes left e =
    let n : ℕ = length bytes in
    elim (bind_err (number_at n bytes) (λ len. number_at n len.1 >>= λ fields. number_at n fields.1 >>= λ append. Ok ((len.0, fields.0, append.0), append.1))
    left e) [
      | inl p ↦ let g = number_err n left bytes p in let low = g.0 in (omega arith, g.1)
      | inr a ↦
          elim (bind_err (number_at n a.0.1) (λ fields. number_at n fields.1 >>= λ append. Ok ((a.0.0, fields.0, append.0), append.1)) left a.2) [
            | inl p ↦ let g = number_err n left a.0.1 p in let low = g.0 in (omega (arith, four n bytes a.0 a.1), g.1)
            | inr b ↦
                elim (bind_err (number_at n b.0.1) (λ append. Ok ((a.0.0, b.0.0, append.0), append.1)) left b.2) [
                  | inl p ↦ let g = number_err n left b.0.1 p in let low = g.0 in (omega (arith, four n bytes a.0 a.1, four n a.0.1 b.0 b.1), g.1)
                  | inr c ↦ absurd (let x = c.2 in cc)
                ]
          ]
    ]

-- where the bytes of a field end before it does
exchange_err : (n at count : ℕ) (bytes : List ℕ) (left : ℕ) → exchange_at n at count bytes ≡ Err left → (length bytes < 2 * count) × (left ≡ n)
unfolding exchange_at
exchange_err n at count bytes left e =
    elim (bind_err (bytes_at n count bytes) (λ was. bytes_at n count was.1 >>= λ put. Ok (record { at = at; was = was.0; put = put.0 }, put.1)) left e) [
      | inl p ↦ let g = bytes_err n left count bytes p in let low = g.0 in (omega arith, g.1)
      | inr a ↦
          elim (bind_err (bytes_at n count a.0.1) (λ put. Ok (record { at = at; was = a.0.0; put = put.0 }, put.1)) left a.2) [
            | inl p ↦
                let g = bytes_err n left count a.0.1 p in
                let low = g.0 in
                let part = bytes_take n count bytes a.0 a.1 in
                let long = part.long in
                (omega (arith, ap length part.parts, length-append a.0.0 a.0.1), g.1)
            | inr b ↦ absurd (let x = b.2 in cc)
          ]
    ]

-- a test that numbers keep the rules says so where they do
rules_hold : (from len at count : ℕ) → FitRules from len at count → keeps_rules from len at count ≡ true
rules_hold from len at count r =
    and_from _ _ (and_from _ _ (and_from _ _ (le-leb 1 count r.least) (le-leb count 4 r.most)) (le-leb from at r.behind)) (le-leb (at + count) len r.within)

-- the numbers of a field, where its place and its count were read
numbers_read : (n : ℕ) (bytes : List ℕ) (a b : ℕ × List ℕ) → IsBytes bytes → number_at n bytes ≡ Ok a → byte_at n a.1 ≡ Ok b → FieldNumbers bytes
numbers_read n bytes a b fits e f =
    let t = number_takes n bytes a fits e in
    record { at = a.0; count = b.0; rest = b.1; parts = t.0.parts ∙ ap (λ (r : List ℕ). number a.0 ++ r) (byte_takes n a.1 b f); small = t.1 }

-- behind its numbers a field was stopped by its rules or by its bytes
stopped_by : (from len n : ℕ) (bytes : List ℕ) (m : FieldNumbers bytes) (kept : Bool) (left : ℕ) → keeps_rules from len m.at m.count ≡ kept
    → cond kept (exchange_at n m.at m.count m.rest) (Err n) ≡ Err left → IsBadField from len bytes × (left ≡ n)
stopped_by from len n bytes m true left is e = let g = exchange_err n m.at m.count m.rest left e in (BytesCut m g.0, g.1)
stopped_by from len n bytes m false left is e =
    (BreaksRules m (λ r. let both = sym is ∙ rules_hold from len m.at m.count r in cc), let same = e in cc)

field_err : (from len : ℕ) (bytes : List ℕ) (left : ℕ) → IsBytes bytes → field_at from len bytes ≡ Err left → IsBadField from len bytes × (left ≡ length bytes)
unfolding field_at numbers_read
field_err from len bytes left fits e =
    let n : ℕ = length bytes in
    elim (bind_err (number_at n bytes)
    (λ at. byte_at n at.1 >>= λ count. cond (keeps_rules from len at.0 count.0) (exchange_at n at.0 count.0 count.1) (Err n)) left e) [
      | inl p ↦ let g = number_err n left bytes p in let low = g.0 in (NumbersCut (omega arith), g.1)
      | inr a ↦
          elim (bind_err (byte_at n a.0.1) (λ count. cond (keeps_rules from len a.0.0 count.0) (exchange_at n a.0.0 count.0 count.1) (Err n)) left a.2) [
            | inl p ↦ let g = byte_err n left a.0.1 p in let none = g.0 in (NumbersCut (omega (arith, four n bytes a.0 a.1)), g.1)
            | inr b ↦ stopped_by from len n bytes (numbers_read n bytes a.0 b.0 fits a.1 b.1) (keeps_rules from len a.0.0 b.0.0) left refl b.2
          ]
    ]

-- of so many fields some stand, and the next one is bad
record Breaks (from len n : ℕ) (bytes : List ℕ) (left : ℕ) : Type 0 where
  fields : List Exchange
  rest : List ℕ
  parts : bytes ≡ flat_map field_spelling fields ++ rest
  rules : AllKeepRules from len fields
  few : length fields < n
  bad : IsBadField (end_after from fields) len rest
  left_is : left ≡ length rest

fields_err : (from len n : ℕ) (bytes : List ℕ) (left : ℕ) → IsBytes bytes → fields_at from len n bytes ≡ Err left → Breaks from len n bytes left
unfolding fields_at
fields_err from len zero bytes left fits e = absurd cc
fields_err from len (suc n) bytes left fits e =
    elim (bind_err (field_at from len bytes)
    (λ first. fields_at (first.0.at + length first.0.was) len n first.1 >>= λ others. Ok (first.0 ∷ others.0, others.1)) left e) [
      | inl p ↦
          let g = field_err from len bytes left fits p in
          record { fields = []; rest = bytes; parts = refl; rules = tt; few = omega arith; bad = g.0; left_is = g.1 }
      | inr a ↦
          let f : Exchange = a.0.0 in
          let t = field_takes from len bytes a.0 fits a.1 in
          elim (bind_err (fields_at (f.at + length f.was) len n a.0.1) (λ others. Ok (f ∷ others.0, others.1)) left a.2) [
            | inl p ↦
                let b = fields_err (f.at + length f.was) len n a.0.1 left t.fits p in
                let few = b.few in
                record {
                  fields = f ∷ b.fields;
                  rest = b.rest;
                  parts = t.parts ∙ ap (λ (r : List ℕ). field_spelling f ++ r) b.parts
                      ∙ sym (append_assoc (field_spelling f) (flat_map field_spelling b.fields) b.rest)
                      ∙ ap (λ (r : List ℕ). r ++ b.rest) (sym (flat_map-cons field_spelling f b.fields));
                  rules = (field_rules from len bytes a.0 a.1, b.rules);
                  few = omega arith;
                  bad = b.bad;
                  left_is = b.left_is;
                }
            | inr b ↦ absurd (let x = b.2 in cc)
          ]
    ]

entry_err : (bytes : List ℕ) (left : ℕ) → IsBytes bytes → entry_at bytes ≡ Err left → IsBadEntry bytes left
unfolding entry_at
entry_err bytes left fits e =
    elim (bind_err (head_at bytes)
    (λ head. fields_at 0 head.0.0 head.0.1 head.1 >>= λ fields. bytes_at (length fields.1) head.0.2 fields.1 >>= λ append. Ok
    (record { len = head.0.0; fields = fields.0; append = append.0 }, append.1)) left e) [
      | inl p ↦ let g = head_err bytes left p in HeadCut g.0 g.1
      | inr a ↦
          let t = head_takes bytes a.0 fits a.1 in
          let h : HeadStands bytes = record {
            len = a.0.0.0;
            fields = a.0.0.1;
            append = a.0.0.2;
            rest = a.0.1;
            parts = t.0.parts;
            len_small = t.1;
            fields_small = t.2;
            append_small = t.3;
          } in
          elim (bind_err (fields_at 0 a.0.0.0 a.0.0.1 a.0.1)
          (λ fields. bytes_at (length fields.1) a.0.0.2 fields.1 >>= λ append. Ok (record { len = a.0.0.0; fields = fields.0; append = append.0 }, append.1))
          left a.2) [
            | inl p ↦
                let b = fields_err 0 a.0.0.0 a.0.0.1 a.0.1 left t.0.fits p in
                FieldBad h (record { fields = b.fields; rest = b.rest; parts = b.parts; rules = b.rules }) b.few b.bad b.left_is
            | inr b ↦
                let f = fields_take 0 a.0.0.0 a.0.0.1 a.0.1 b.0 t.0.fits b.1 in
                elim (bind_err (bytes_at (length b.0.1) a.0.0.2 b.0.1) (λ append. Ok (record { len = a.0.0.0; fields = b.0.0; append = append.0 }, append.1))
                left b.2) [
                  | inl p ↦
                      let g = bytes_err (length b.0.1) left a.0.0.2 b.0.1 p in
                      AppendCut h (record { fields = b.0.0; rest = b.0.1; parts = f.0.parts; rules = fields_rules 0 a.0.0.0 a.0.0.1 a.0.1 b.0 b.1 })
                      f.1 g.0 g.1
                  | inr c ↦ absurd (let x = c.2 in cc)
                ]
          ]
    ]

-- of so many entries some stand, and the next one is bad
record BreaksEntries (n : ℕ) (bytes : List ℕ) (left : ℕ) : Type 0 where
  stand : EntriesStand bytes
  few : length stand.entries < n
  bad : IsBadEntry stand.rest left

entries_err : (n : ℕ) (bytes : List ℕ) (left : ℕ) → IsBytes bytes → entries_at n bytes ≡ Err left → BreaksEntries n bytes left
unfolding entries_at
entries_err zero bytes left fits e = absurd cc
entries_err (suc n) bytes left fits e =
    elim (bind_err (entry_at bytes) (λ first. entries_at n first.1 >>= λ others. Ok (first.0 ∷ others.0, others.1)) left e) [
      | inl p ↦ record {
        stand = record { entries = []; rest = bytes; parts = refl; each = tt };
        few = omega arith;
        bad = entry_err bytes left fits p;
      }
      | inr a ↦
          let t = entry_takes bytes a.0 fits a.1 in
          elim (bind_err (entries_at n a.0.1) (λ others. Ok (a.0.0 ∷ others.0, others.1)) left a.2) [
            | inl p ↦
                let b = entries_err n a.0.1 left t.0.fits p in
                let few = b.few in
                record {
                  stand = record {
                    entries = a.0.0 ∷ b.stand.entries;
                    rest = b.stand.rest;
                    parts = t.0.parts ∙ ap (λ (r : List ℕ). entry_spelling a.0.0 ++ r) b.stand.parts
                        ∙ sym (append_assoc (entry_spelling a.0.0) (flat_map entry_spelling b.stand.entries) b.stand.rest)
                        ∙ ap (λ (r : List ℕ). r ++ b.stand.rest) (sym (flat_map-cons entry_spelling a.0.0 b.stand.entries));
                    each = (t.1, b.stand.each);
                  };
                  few = omega arith;
                  bad = b.bad;
                }
            | inr b ↦ absurd (let x = b.2 in cc)
          ]
    ]

-- where the file doesn't begin with the mark
mark_err : (bytes : List ℕ) (left : ℕ) → mark_at bytes ≡ Err left → ((rest : List ℕ) → ¬ (bytes ≡ mark ++ rest)) × (left ≡ length bytes)
mark_err bytes left e =
    let g = stopped (starts_with eqb bytes mark) e in
    (λ rest is. let both = sym g.0 ∙ (starts_is Decides-eqb bytes mark (starts_with eqb bytes mark) refl).1 rest is in cc, g.1)
  where
    stopped : (b : Bool) → cond b (Ok (drop 8 bytes)) (Err (length bytes)) ≡ Err left → (b ≡ false) × (left ≡ length bytes)
    stopped true f = absurd (let x = f in cc)
    stopped false f = (refl, let x = f in cc)

pub patch_err : (bytes : List ℕ) (left : ℕ) → IsBytes bytes → patch_of bytes ≡ Err left → IsBad bytes left
unfolding patch_of
patch_err bytes left fits e =
    elim (bind_err (mark_at bytes)
    (λ rest. number_at (length rest) rest >>= λ count. entries_at count.0 count.1 >>= λ x. cond (eqb (length x.1) 0) (Ok x.0) (Err (length x.1))) left e) [
      | inl p ↦ let g = mark_err bytes left p in MarkBad g.0 g.1
      | inr m ↦
          let t = mark_takes bytes m.0 fits m.1 in
          elim (bind_err (number_at (length m.0) m.0) (λ count. entries_at count.0 count.1 >>= λ x. cond (eqb (length x.1) 0) (Ok x.0) (Err (length x.1)))
          left m.2) [
            | inl p ↦ let g = number_err (length m.0) left m.0 p in CountCut m.0 t.parts g.0 g.1
            | inr a ↦
                let c = number_takes (length m.0) m.0 a.0 t.fits a.1 in
                let count : CountStands bytes = record {
                  count = a.0.0;
                  rest = a.0.1;
                  parts = t.parts ∙ ap (λ (r : List ℕ). mark ++ r) c.0.parts;
                  small = c.1;
                } in
                elim (bind_err (entries_at a.0.0 a.0.1) (λ x. cond (eqb (length x.1) 0) (Ok x.0) (Err (length x.1))) left a.2) [
                  | inl p ↦ let b = entries_err a.0.0 a.0.1 left c.0.fits p in EntryBad count b.stand b.few b.bad
                  | inr b ↦
                      let es = entries_take a.0.0 a.0.1 b.0 c.0.fits b.1 in
                      behind count (record { entries = b.0.0; rest = b.0.1; parts = es.0.parts; each = es.2 }) es.1 (eqb (length b.0.1) 0) left refl b.2
                ]
          ]
    ]
  where
    behind : {file : List ℕ} (c : CountStands file) (e : EntriesStand c.rest) → length e.entries ≡ c.count → (none : Bool) (left : ℕ)
        → eqb (length e.rest) 0 ≡ none → cond none (Ok e.entries) (Err (length e.rest)) ≡ Err left → IsBad file left
    behind c e all true left is stops = absurd (let x = stops in cc)
    behind c e all false left is stops =
        let some : length e.rest ≡ 0 → ⊥ = eqb-false (length e.rest) 0 is in
        BytesBehind c e all (omega (arith, some)) (let x = stops in cc)
