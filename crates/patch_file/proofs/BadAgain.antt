-- Where a piece is bad, reading stops there.
use Rattle.std.proofs.Common.{◌≡◌, ℕ, zero, suc, ◌+◌, ◌*◌, ◌^◌, ◌<◌, ◌≤◌, Bool, true, false, cond, leb, eqb, ◌&&◌, List, [], ◌∷◌, ◌++◌, length, take, drop}
use Rattle.std.proofs.Common.{Result, Ok, Err, refl, sym, ap, ◌∙◌, append_assoc, arith, inl, inr, length-drop}
use Rattle.std.specs.List.{flat_map, AllByRecursion, starts_with}
use Rattle.std.specs.Int.{w32, from_le_bytes}
use Rattle.std.proofs.lemmas.Bool.{cases_lt, lt-ltb, le-ltb, leb-true, and_parts}
use Rattle.std.proofs.Math.Dec.{eqb-suc-zero}
use Rattle.std.proofs.lemmas.List.Concat.{flat_map-cons}
use Rattle.std.proofs.lemmas.Slice.Eq.{starts_is}
use Rattle.std.proofs.lemmas.Bool.Decides.{Decides-eqb}
use Rattle.patch_file.specs.Exchanges.{Exchange, AllKeepRules}
use Rattle.patch_file.specs.Spelling.{Packed, mark, number, field_spelling, entry_spelling, IsEntry}
use Rattle.patch_file.specs.Reading.{◌>>=◌, bytes_at, number_at, byte_at, mark_at, head_at}
use Rattle.patch_file.specs.Reading.{keeps_rules, exchange_at, field_at, fields_at, entry_at, entries_at, patch_of}
use Rattle.patch_file.specs.BadPieces.{FieldNumbers, FitRules, IsBadField, NumbersCut, BreaksRules, BytesCut, end_after, FieldsStand, HeadStands}
use Rattle.patch_file.specs.BadPieces.{IsBadEntry, HeadCut, FieldBad, AppendCut, EntriesStand, CountStands, IsBad, MarkBad, CountCut, EntryBad, BytesBehind}
use Rattle.patch_file.proofs.SpellingsRead.{number_again, field_again, fields_again, head_again, entry_again, entries_again}

-- a number that is cut off
number_cut : (at : ℕ) (bytes : List ℕ) → length bytes < 4 → number_at at bytes ≡ Err at
number_cut at bytes short = rw (lt-ltb (length bytes) 4 short) refl

bytes_cut : (at n : ℕ) (bytes : List ℕ) → length bytes < n → bytes_at at n bytes ≡ Err at
bytes_cut at n bytes short = rw (lt-ltb (length bytes) n short) refl

-- one that isn't leaves what stands behind four bytes
number_left : (at : ℕ) (bytes : List ℕ) → 4 ≤ length bytes → number_at at bytes ≡ Ok (from_le_bytes w32 (take 4 bytes), drop 4 bytes)
number_left at bytes long = rw (le-ltb (length bytes) 4 long) refl

-- a byte of none
byte_cut : (at : ℕ) (bytes : List ℕ) → length bytes ≡ 0 → byte_at at bytes ≡ Err at
byte_cut at [] none = refl
byte_cut at (b ∷ bytes) none = absurd (let x = none in cc)

-- the numbers of a field that end early
numbers_cut : (from len : ℕ) (bytes : List ℕ) → length bytes < 5 → field_at from len bytes ≡ Err (length bytes)
unfolding field_at
numbers_cut from len bytes short =
    elim (cases_lt (length bytes) 4) [
      | inl low ↦ rw (number_cut (length bytes) bytes low) refl
      | inr high ↦ rw (number_left (length bytes) bytes high, byte_cut (length bytes) (drop 4 bytes) (omega (arith, length-drop 4 bytes))) refl
    ]

-- a test that numbers keep the rules
fit : (from len at count : ℕ) → keeps_rules from len at count ≡ true → FitRules from len at count
fit from len at count e =
    let d = and_parts (leb 1 count && leb count 4 && leb from at) (leb (at + count) len) e in
    let c = and_parts (leb 1 count && leb count 4) (leb from at) d.0 in
    let b = and_parts (leb 1 count) (leb count 4) c.0 in
    record { least = leb-true 1 count b.0; most = leb-true count 4 b.1; behind = leb-true from at c.1; within = leb-true (at + count) len d.1 }

-- the bytes of a field that end early
exchange_cut : (n at count : ℕ) (bytes : List ℕ) → length bytes < 2 * count → exchange_at n at count bytes ≡ Err n
unfolding exchange_at
exchange_cut n at count bytes short =
    elim (cases_lt (length bytes) count) [
      | inl low ↦ rw (bytes_cut n count bytes low) refl
      | inr high ↦ rw (le-ltb (length bytes) count high, bytes_cut n count (drop count bytes) (omega (arith, length-drop count bytes))) refl
    ]

-- the numbers of a field were read, and behind them it stops
behind_numbers : (from len : ℕ) (bytes : List ℕ) (m : FieldNumbers bytes)
    → cond (keeps_rules from len m.at m.count) (exchange_at (length bytes) m.at m.count m.rest) (Err (length bytes)) ≡ Err (length bytes)
    → field_at from len bytes ≡ Err (length bytes)
unfolding field_at
behind_numbers from len bytes m stops =
    let read : number_at (length bytes) bytes ≡ Ok (m.at, m.count ∷ m.rest) =
    ap (number_at (length bytes)) m.parts ∙ number_again (length bytes) m.at (m.count ∷ m.rest) m.small in
    rw read stops

broken : {A : Type 0} (b : Bool) (r : Result A ℕ) (n : ℕ) → ¬ (b ≡ true) → cond b r (Err n) ≡ Err n
broken true r n not = absurd (not refl)
broken false r n not = refl

cut : {A : Type 0} (b : Bool) (r : Result A ℕ) (n : ℕ) → r ≡ Err n → cond b r (Err n) ≡ Err n
cut true r n is = is
cut false r n is = refl

field_bad : (from len : ℕ) (bytes : List ℕ) → IsBadField from len bytes → field_at from len bytes ≡ Err (length bytes)
field_bad from len bytes (NumbersCut short) = numbers_cut from len bytes short
field_bad from len bytes (BreaksRules m breaks) =
    behind_numbers from len bytes m (broken (keeps_rules from len m.at m.count) (exchange_at (length bytes) m.at m.count m.rest) (length bytes)
    (λ kept. breaks (fit from len m.at m.count kept)))
field_bad from len bytes (BytesCut m short) =
    behind_numbers from len bytes m (cut (keeps_rules from len m.at m.count) (exchange_at (length bytes) m.at m.count m.rest) (length bytes)
    (exchange_cut (length bytes) m.at m.count m.rest short))

-- behind fields that stand the next one is bad
fields_bad : (from len n : ℕ) (fs : List Exchange) (rest : List ℕ) → len < 2 ^ 32 → AllKeepRules from len fs → length fs < n
    → IsBadField (end_after from fs) len rest → fields_at from len n (flat_map field_spelling fs ++ rest) ≡ Err (length rest)
unfolding fields_at
fields_bad from len zero fs rest small rules few bad = absurd (omega arith)
fields_bad from len (suc n) [] rest small rules few bad = rw (field_bad from len rest bad) refl
fields_bad from len (suc n) (f ∷ fs) rest small rules few bad =
    let regrouped : flat_map field_spelling (f ∷ fs) ++ rest ≡ field_spelling f ++ (flat_map field_spelling fs ++ rest) =
    ap (λ (x : List ℕ). x ++ rest) (flat_map-cons field_spelling f fs) ∙ append_assoc (field_spelling f) (flat_map field_spelling fs) rest in
    ap (fields_at from len (suc n)) regrouped
    ∙ rw (
      field_again from len f (flat_map field_spelling fs ++ rest) small rules.0,
      fields_bad (f.at + length f.was) len n fs rest small rules.1 (omega arith) bad,
    ) refl

-- a head that is cut off
head_cut : (bytes : List ℕ) → length bytes < 12 → head_at bytes ≡ Err (length bytes)
unfolding head_at
head_cut bytes short =
    elim (cases_lt (length bytes) 4) [
      | inl low ↦ rw (number_cut (length bytes) bytes low) refl
      | inr one ↦
          elim (cases_lt (length bytes) 8) [
            | inl low ↦ rw (number_left (length bytes) bytes one, number_cut (length bytes) (drop 4 bytes) (omega (arith, length-drop 4 bytes))) refl
            | inr two ↦
                rw (
                  number_left (length bytes) bytes one,
                  number_left (length bytes) (drop 4 bytes) (omega (arith, length-drop 4 bytes)),
                  number_cut (length bytes) (drop 4 (drop 4 bytes)) (omega (arith, length-drop 4 bytes, length-drop 4 (drop 4 bytes))),
                ) refl
          ]
    ]

-- a head that stands is read
head_read : (bytes : List ℕ) (h : HeadStands bytes) → head_at bytes ≡ Ok ((h.len, h.fields, h.append), h.rest)
head_read bytes h = ap head_at h.parts ∙ head_again h.len h.fields h.append h.rest h.len_small h.fields_small h.append_small

-- fields that stand are read, and where one behind them is bad reading stops there
fields_stop : (h_len count : ℕ) (bytes : List ℕ) (f : FieldsStand h_len bytes) → h_len < 2 ^ 32 → length f.fields < count
    → IsBadField (end_after 0 f.fields) h_len f.rest → fields_at 0 h_len count bytes ≡ Err (length f.rest)
fields_stop h_len count bytes f small few bad =
    ap (fields_at 0 h_len count) f.parts ∙ fields_bad 0 h_len count f.fields f.rest small f.rules few bad

fields_read : (h_len count : ℕ) (bytes : List ℕ) (f : FieldsStand h_len bytes) → h_len < 2 ^ 32 → length f.fields ≡ count
    → fields_at 0 h_len count bytes ≡ Ok (f.fields, f.rest)
fields_read h_len count bytes f small all =
    ap (λ n. fields_at 0 h_len n bytes) (sym all)
    ∙ ap (fields_at 0 h_len (length f.fields)) f.parts
    ∙ fields_again 0 h_len f.fields f.rest small f.rules

entry_bad : (bytes : List ℕ) (left : ℕ) → IsBadEntry bytes left → entry_at bytes ≡ Err left
unfolding entry_at
entry_bad bytes left (HeadCut short is) = rw (is, head_cut bytes short) refl
entry_bad bytes left (FieldBad h f few bad is) = rw (is, head_read bytes h, fields_stop h.len h.fields h.rest f h.len_small few bad) refl
entry_bad bytes left (AppendCut h f all short is) =
    rw (is, head_read bytes h, fields_read h.len h.fields h.rest f h.len_small all, bytes_cut (length f.rest) h.append f.rest short) refl

-- and so it is with entries
entries_bad : (n : ℕ) (es : List Packed) (rest : List ℕ) (left : ℕ) → AllByRecursion IsEntry es → length es < n → IsBadEntry rest left
    → entries_at n (flat_map entry_spelling es ++ rest) ≡ Err left
unfolding entries_at
entries_bad zero es rest left are few bad = absurd (omega arith)
entries_bad (suc n) [] rest left are few bad = rw (entry_bad rest left bad) refl
entries_bad (suc n) (e ∷ es) rest left are few bad =
    let regrouped : flat_map entry_spelling (e ∷ es) ++ rest ≡ entry_spelling e ++ (flat_map entry_spelling es ++ rest) =
    ap (λ (x : List ℕ). x ++ rest) (flat_map-cons entry_spelling e es) ∙ append_assoc (entry_spelling e) (flat_map entry_spelling es) rest in
    ap (entries_at (suc n)) regrouped
    ∙ rw (entry_again e (flat_map entry_spelling es ++ rest) are.0, entries_bad n es rest left are.1 (omega arith) bad) refl

entries_stop : (count : ℕ) (bytes : List ℕ) (e : EntriesStand bytes) (left : ℕ) → length e.entries < count → IsBadEntry e.rest left
    → entries_at count bytes ≡ Err left
entries_stop count bytes e left few bad = ap (entries_at count) e.parts ∙ entries_bad count e.entries e.rest left e.each few bad

entries_read : (count : ℕ) (bytes : List ℕ) (e : EntriesStand bytes) → length e.entries ≡ count → entries_at count bytes ≡ Ok (e.entries, e.rest)
entries_read count bytes e all =
    ap (λ n. entries_at n bytes) (sym all) ∙ ap (entries_at (length e.entries)) e.parts ∙ entries_again e.entries e.rest e.each

-- a file that doesn't begin with the mark
no_mark : (b : Bool) (bytes : List ℕ) → (b ≡ true → ⊥) → cond b (Ok (drop 8 bytes)) (Err (length bytes)) ≡ Err (length bytes)
no_mark true bytes not = absurd (not refl)
no_mark false bytes not = refl

-- there is something
not_none : (n : ℕ) → 0 < n → eqb n 0 ≡ false
not_none zero some = absurd (omega arith)
not_none (suc n) some = eqb-suc-zero n

-- the mark and the number were read
count_read : (file : List ℕ) (c : CountStands file) (f : (ℕ × List ℕ) → Result (List Packed) ℕ)
    → (mark_at file >>= λ rest. number_at (length rest) rest >>= f) ≡ f (c.count, c.rest)
count_read file c f =
    ap (λ (b : List ℕ). mark_at b >>= λ rest. number_at (length rest) rest >>= f) c.parts
    ∙ ap (λ r. r >>= f) (number_again (length (number c.count ++ c.rest)) c.count c.rest c.small)

pub patch_bad : (file : List ℕ) (left : ℕ) → IsBad file left → patch_of file ≡ Err left
unfolding patch_of
patch_bad file left (MarkBad not is) =
    let none : mark_at file ≡ Err (length file) = no_mark (starts_with eqb file mark) file
    (λ e. not (drop 8 file) ((starts_is Decides-eqb file mark (starts_with eqb file mark) refl).0 e)) in
    rw (is, none) refl
patch_bad file left (CountCut rest parts short is) =
    ap patch_of parts ∙ rw (is, number_cut (length rest) rest short) refl
patch_bad file left (EntryBad c e few bad) =
    count_read file c (λ count. entries_at count.0 count.1 >>= λ x. cond (eqb (length x.1) 0) (Ok x.0) (Err (length x.1)))
    ∙ rw (entries_stop c.count c.rest e left few bad) refl
patch_bad file left (BytesBehind c e all some is) =
    count_read file c (λ count. entries_at count.0 count.1 >>= λ x. cond (eqb (length x.1) 0) (Ok x.0) (Err (length x.1)))
    ∙ rw (is, entries_read c.count c.rest e all, not_none (length e.rest) some) refl
