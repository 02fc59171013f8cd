-- What is spelled so is read: each reader gives back what was written, and what stands behind it.
use Rattle.std.proofs.Common.{◌≡◌, ℕ, suc, ◌+◌, ◌^◌, ◌<◌, ◌≤◌, true, false, ltb, List, [], ◌∷◌, ◌++◌, length, Ok, refl, sym, ap, ◌∙◌, append_assoc, arith}
use Rattle.std.specs.List.{flat_map, AllByRecursion}
use Rattle.std.specs.Int.{w32, from_le_bytes}
use Rattle.std.proofs.lemmas.Bool.{le-ltb, le-leb, and_from}
use Rattle.std.proofs.lemmas.List.{take_at, drop_at, length-append, append-nil}
use Rattle.std.proofs.lemmas.List.Concat.{flat_map-cons}
use Rattle.std.proofs.lemmas.Nat.{from_le_bytes-to_le_bytes_4}
use Rattle.patch_file.specs.Exchanges.{Exchange, KeepsRules, AllKeepRules}
use Rattle.patch_file.specs.Spelling.{Packed, number, field_spelling, head_spelling, entry_spelling, patch_spelling, IsEntry, AreEntries}
use Rattle.patch_file.specs.Reading.{bytes_at, number_at, head_at, keeps_rules, exchange_at, field_at, fields_at, entry_at, entries_at, patch_of}

part_again : (left n : ℕ) (text rest : List ℕ) → length text ≡ n → bytes_at left n (text ++ rest) ≡ Ok (text, rest)
part_again left n text rest long =
    let enough : ltb (length (text ++ rest)) n ≡ false = le-ltb _ _ (omega (arith, length-append text rest)) in
    rw (enough, take_at text rest n long, drop_at text rest n long) refl

four_again : (left n : ℕ) (text rest : List ℕ) → length text ≡ 4 → from_le_bytes w32 text ≡ n → number_at left (text ++ rest) ≡ Ok (n, rest)
four_again left n text rest long is =
    let enough : ltb (length (text ++ rest)) 4 ≡ false = le-ltb _ _ (omega (arith, length-append text rest)) in
    rw (enough, take_at text rest 4 long, drop_at text rest 4 long, is) refl

pub number_again : (left n : ℕ) (rest : List ℕ) → n < 2 ^ 32 → number_at left (number n ++ rest) ≡ Ok (n, rest)
unfolding number
number_again left n rest lt = four_again left n (number n) rest refl (from_le_bytes-to_le_bytes_4 n lt)

exchange_again : (left at count : ℕ) (was put rest : List ℕ) → length was ≡ count → length put ≡ count
    → exchange_at left at count (was ++ (put ++ rest)) ≡ Ok (record { at = at; was = was; put = put }, rest)
unfolding exchange_at
exchange_again left at count was put rest e f = rw (part_again left count was (put ++ rest) e, part_again left count put rest f) refl

passes : (from len at count : ℕ) → 1 ≤ count → count ≤ 4 → from ≤ at → at + count ≤ len → keeps_rules from len at count ≡ true
passes from len at count a b c d =
    and_from _ _ (and_from _ _ (and_from _ _ (le-leb 1 count a) (le-leb count 4 b)) (le-leb from at c)) (le-leb (at + count) len d)

pub field_again : (from len : ℕ) (f : Exchange) (rest : List ℕ) → len < 2 ^ 32 → KeepsRules from len f → field_at from len (field_spelling f ++ rest)
    ≡ Ok (f, rest)
unfolding field_at
field_again from len f rest small rules =
    let least = rules.least in
    let within = rules.within in
    let place : f.at < 2 ^ 32 = omega arith in
    let inner : (f.was ++ f.put) ++ rest ≡ f.was ++ (f.put ++ rest) = append_assoc f.was f.put rest in
    let regrouped : field_spelling f ++ rest ≡ number f.at ++ (length f.was ∷ (f.was ++ (f.put ++ rest))) =
    append_assoc (number f.at) (length f.was ∷ (f.was ++ f.put)) rest ∙ ap (λ (t : List ℕ). number f.at ++ (length f.was ∷ t)) inner in
    ap (field_at from len) regrouped
    ∙ rw (
      number_again (length (number f.at ++ (length f.was ∷ (f.was ++ (f.put ++ rest))))) f.at (length f.was ∷ (f.was ++ (f.put ++ rest))) place,
      passes from len f.at (length f.was) rules.least rules.most rules.behind rules.within,
      exchange_again (length (number f.at ++ (length f.was ∷ (f.was ++ (f.put ++ rest))))) f.at (length f.was) f.was f.put rest refl rules.same,
    ) refl

pub fields_again : (from len : ℕ) (fs : List Exchange) (rest : List ℕ) → len < 2 ^ 32 → AllKeepRules from len fs
    → fields_at from len (length fs) (flat_map field_spelling fs ++ rest) ≡ Ok (fs, rest)
unfolding fields_at
fields_again from len [] rest small rules = refl
fields_again from len (f ∷ fs) rest small rules =
    let regrouped : flat_map field_spelling (f ∷ fs) ++ rest ≡ field_spelling f ++ (flat_map field_spelling fs ++ rest) =
    ap (λ (x : List ℕ). x ++ rest) (flat_map-cons field_spelling f fs) ∙ append_assoc (field_spelling f) (flat_map field_spelling fs) rest in
    ap (fields_at from len (suc (length fs))) regrouped
    ∙ rw (field_again from len f (flat_map field_spelling fs ++ rest) small rules.0, fields_again (f.at + length f.was) len fs rest small rules.1) refl

pub head_again : (len fields append : ℕ) (rest : List ℕ) → len < 2 ^ 32 → fields < 2 ^ 32 → append < 2 ^ 32
    → head_at (head_spelling len fields append ++ rest) ≡ Ok ((len, fields, append), rest)
unfolding head_at
head_again len fields append rest a b c =
    let regrouped : head_spelling len fields append ++ rest ≡ number len ++ (number fields ++ (number append ++ rest)) =
    append_assoc (number len) (number fields ++ number append) rest
    ∙ ap (λ (t : List ℕ). number len ++ t) (append_assoc (number fields) (number append) rest) in
    let left : ℕ = length (number len ++ (number fields ++ (number append ++ rest))) in
    ap head_at regrouped ∙ rw (
      number_again left len (number fields ++ (number append ++ rest)) a,
      number_again left fields (number append ++ rest) b,
      number_again left append rest c,
    ) refl

-- fields that keep the rules are no more than there are bytes behind the first place
pub few_fields : (from len : ℕ) (fs : List Exchange) → from ≤ len → AllKeepRules from len fs → from + length fs ≤ len
few_fields from len [] le rules = omega arith
few_fields from len (f ∷ fs) le rules =
    let least = rules.0.least in
    let behind = rules.0.behind in
    let more = few_fields (f.at + length f.was) len fs rules.0.within rules.1 in
    omega arith

pub entry_again : (e : Packed) (rest : List ℕ) → IsEntry e → entry_at (entry_spelling e ++ rest) ≡ Ok (e, rest)
unfolding entry_at
entry_again e rest is =
    let head : List ℕ = head_spelling e.len (length e.fields) (length e.append) in
    let regrouped : entry_spelling e ++ rest ≡ head ++ (flat_map field_spelling e.fields ++ (e.append ++ rest)) =
    append_assoc head (flat_map field_spelling e.fields ++ e.append) rest
    ∙ ap (λ (t : List ℕ). head ++ t) (append_assoc (flat_map field_spelling e.fields) e.append rest) in
    let few : length e.fields < 2 ^ 32 = let fits = is.len in omega (arith, few_fields 0 e.len e.fields (omega arith) is.rules) in
    ap entry_at regrouped
    ∙ rw (
      head_again e.len (length e.fields) (length e.append) (flat_map field_spelling e.fields ++ (e.append ++ rest)) is.len few is.append,
      fields_again 0 e.len e.fields (e.append ++ rest) is.len is.rules,
      part_again (length (e.append ++ rest)) (length e.append) e.append rest refl,
    ) refl

pub entries_again : (es : List Packed) (rest : List ℕ) → AllByRecursion IsEntry es → entries_at (length es) (flat_map entry_spelling es ++ rest) ≡ Ok (es, rest)
unfolding entries_at
entries_again [] rest are = refl
entries_again (e ∷ es) rest are =
    let regrouped : flat_map entry_spelling (e ∷ es) ++ rest ≡ entry_spelling e ++ (flat_map entry_spelling es ++ rest) =
    ap (λ (x : List ℕ). x ++ rest) (flat_map-cons entry_spelling e es) ∙ append_assoc (entry_spelling e) (flat_map entry_spelling es) rest in
    ap (entries_at (suc (length es))) regrouped ∙ rw (entry_again e (flat_map entry_spelling es ++ rest) are.0, entries_again es rest are.1) refl

pub length-number : (n : ℕ) → length (number n) ≡ 4
unfolding number
length-number n = refl

pub patch_again : (es : List Packed) → AreEntries es → patch_of (patch_spelling es) ≡ Ok es
unfolding patch_of
patch_again es are =
    let text : List ℕ = flat_map entry_spelling es in
    let rest : entries_at (length es) text ≡ Ok (es, []) = ap (entries_at (length es)) (sym (append-nil text)) ∙ entries_again es [] are.each in
    rw (number_again (length (number (length es) ++ text)) (length es) text are.count, rest) refl
