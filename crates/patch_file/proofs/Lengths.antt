-- How long spellings are.
use Rattle.std.proofs.Common.{refl, ◌≡◌, ℕ, ◌+◌, ◌^◌, ◌<◌, ◌≤◌, List, [], ◌∷◌, ◌++◌, length, min, ap, ◌∙◌, arith, length-append}
use Rattle.std.specs.List.{flat_map, All, AllByRecursion}
use Rattle.std.proofs.lemmas.List.{length-map}
use Rattle.std.proofs.lemmas.List.Concat.{flat_map-cons}
use Rattle.std.proofs.lemmas.List.Elements.{All-from_recursion}
use Rattle.patch_file.specs.declared.patch_entry.PatchEntry.{PatchEntry}
use Rattle.patch_file.specs.Exchanges.{Exchange}
use Rattle.patch_file.specs.Spelling.{Packed, mark, number, field_spelling, head_spelling, entry_spelling, patch_spelling}
use Rattle.patch_file.specs.PatchView.{packed_of, all_packed}
use Rattle.patch_file.proofs.SpellingsRead.{length-number}

pub length-field : (f : Exchange) → length (field_spelling f) ≡ 5 + length f.was + length f.put
length-field f =
    omega (arith, length-append (number f.at) (length f.was ∷ (f.was ++ f.put)), length-append f.was f.put, length-number f.at)

length-head : (len fields append : ℕ) → length (head_spelling len fields append) ≡ 12
length-head len fields append =
    omega (
      arith,
      length-append (number len) (number fields ++ number append),
      length-append (number fields) (number append),
      length-number len,
      length-number fields,
      length-number append,
    )

pub length-entry : (e : Packed) → length (entry_spelling e) ≡ 12 + length (flat_map field_spelling e.fields) + length e.append
length-entry e =
    omega (
      arith,
      length-append (head_spelling e.len (length e.fields) (length e.append)) (flat_map field_spelling e.fields ++ e.append),
      length-append (flat_map field_spelling e.fields) e.append,
      length-head e.len (length e.fields) (length e.append),
    )

pub length-patch : (es : List Packed) → length (patch_spelling es) ≡ 12 + length (flat_map entry_spelling es)
length-patch es =
    let eight : length mark ≡ 8 = refl in
    omega (
      arith,
      length-append mark (number (length es) ++ flat_map entry_spelling es),
      length-append (number (length es)) (flat_map entry_spelling es),
      length-number (length es),
    )

length-more : (e : Packed) (es : List Packed) → length (flat_map entry_spelling (e ∷ es)) ≡ length (entry_spelling e) + length (flat_map entry_spelling es)
length-more e es = ap length (flat_map-cons entry_spelling e es) ∙ length-append (entry_spelling e) (flat_map entry_spelling es)

-- there are no more entries than bytes
few : (es : List Packed) → length es ≤ length (flat_map entry_spelling es)
few [] = omega arith
few (e ∷ es) = omega (arith, few es, length-more e es, length-entry e)

pub few_entries : (es : List PatchEntry) (n : ℕ) → length (patch_spelling (all_packed es)) ≤ n → length es ≤ n
few_entries es n le = omega (arith, few (all_packed es), length-patch (all_packed es), length-map es packed_of)

short : (n : ℕ) (es : List PatchEntry) → length (flat_map entry_spelling (all_packed es)) ≤ n → AllByRecursion (λ e. length e.append ≤ n) es
short n [] le = tt
short n (e ∷ es) le =
    let more = length-more (packed_of e) (all_packed es) in
    let one = length-entry (packed_of e) in
    (omega arith, short n es (omega arith))

widened : (n m : ℕ) (es : List PatchEntry) → n < m → AllByRecursion (λ e. length e.append ≤ n) es → AllByRecursion (λ e. length e.append < m) es
widened n m [] lt h = tt
widened n m (e ∷ es) lt h = let first = h.0 in (omega arith, widened n m es lt h.1)

pub short_appends : (es : List PatchEntry) (n : ℕ) → n < 2 ^ 32 → length (patch_spelling (all_packed es)) ≤ n → All (λ e. length e.append < 2 ^ 32) es
short_appends es n lt le =
    All-from_recursion (λ e. length e.append < 2 ^ 32) es (widened n (2 ^ 32) es lt (short n es (omega (arith, length-patch (all_packed es)))))

-- what is added to a sum as far as the number goes
pub capped : (a b x m : ℕ) → a ≡ min x m → min (a + b) m ≡ min (x + b) m
capped a b x m e = omega arith
