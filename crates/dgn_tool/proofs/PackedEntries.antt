-- What is taken off a session's log are the packed entries of the edits that are left.
use Rattle.std.proofs.Common.{◌≡◌, ℕ, ◌+◌, ◌<◌, min, Bool, true, cond, nat_lt, codes, List, [], ◌∷◌, ◌++◌, length, map, reverse, refl, sym, ap}
use Rattle.std.proofs.Common.{◌∙◌, subst, arith}
use Rattle.std.proofs.lemmas.Bool.Decides.{nat_tests}
use Rattle.std.proofs.lemmas.List.{append-nil, reverse-append, map-append, length-map}
use Rattle.undo_log.specs.declared.entry.Entry.{Entry}
use Rattle.undo_log.specs.Entries.{back, bodies}
use Rattle.patch_file.specs.Spelling.{Packed, patch_spelling}
use Rattle.patch_file.specs.Standing.{taken_of, all_taken}
use Rattle.patch_file.specs.declared.patch_entry.PatchEntry.{PatchEntry}
use Rattle.patch_file.specs.PatchView.{packed_of, all_packed}
use Rattle.patch_file.specs.declared.limits.TheConstants.{MOST_PATCH}
use Rattle.dgn_drawing.specs.Element.{Element}
use Rattle.dgn_drawing.specs.Spelling.{spelling}
use Rattle.dgn_drawing.specs.Opening.{elements_of}
use Rattle.dgn_drawing.proofs.Fronts.{body_spelled}
use Rattle.dgn_session.specs.State.{State, SessionValue, state_of, earlier_of}
use Rattle.dgn_session.specs.Kept.{AreKept}
use Rattle.dgn_session.specs.Laws.{IsSessionValue}
use Rattle.dgn_session.proofs.Steps.{bodies_first}
use Rattle.dgn_answers.specs.Remaining.{RemainingEdit}
use Rattle.dgn_answers.specs.Steps.{Step, after_all, refused_count, with_steps}
use Rattle.dgn_tool.specs.Ended.{ended, filed_then_said}
use Rattle.dgn_tool.specs.Ended.{status_with}
use Rattle.dgn_listing.specs.NumberedLines.{numbered}
use Rattle.dgn_tool.specs.declared.status.Status.{Status}
use Rattle.dgn_tool.specs.declared.status.Status.TheVariants as statuses
use Rattle.dgn_tool.specs.Packing.{packed_made, packed_after, filed_patch, packed_from}
use Rattle.dgn_answers.specs.Logs.{entry_made, IsLogOf, AllLogAs}
use Rattle.dgn_tool.proofs.StackedEdits.{lists_made, IsStacked, steps_stack}
use Rattle.dgn_tool.proofs.LinkedEdits.{steps_dim}

-- lists that are the same begin and go on with the same
heads : {X : Type 0} (x y : X) (xs ys : List X) → x ∷ xs ≡ y ∷ ys → x ≡ y
heads x y xs ys is = let e = is in cc

tails : {X : Type 0} (x y : X) (xs ys : List X) → x ∷ xs ≡ y ∷ ys → xs ≡ ys
tails x y xs ys is = let e = is in cc

-- the last one is taken off what the newest edit made, and so on back
taken_are : (dim : ℕ) (tail b : List ℕ) (base : List Element) (left : List RemainingEdit) → AreKept dim tail b (map (entry_made dim) left)
    → map (elements_of dim) (bodies b (map (entry_made dim) left)) ≡ lists_made left ++ base ∷ []
    → all_taken b (map (entry_made dim) left) ≡ map (packed_made dim) (reverse left)
taken_are dim tail b base [] kept lists = refl
taken_are dim tail b base (m ∷ left) kept lists =
    let earlier : List (List Element) = map (elements_of dim) (bodies (back b (entry_made dim m)) (map (entry_made dim) left)) in
    let top : elements_of dim b ≡ m.made = heads (elements_of dim b) m.made earlier (lists_made left ++ base ∷ []) lists in
    let below : earlier ≡ lists_made left ++ base ∷ [] = tails (elements_of dim b) m.made earlier (lists_made left ++ base ∷ []) lists in
    let body : b ≡ spelling m.made = sym (body_spelled b tail dim (elements_of dim b) kept.0.opens) ∙ ap spelling top in
    let before = taken_are dim tail (back b (entry_made dim m)) base left kept.2 below in
    ap (λ (ps : List Packed). ps ++ taken_of b (entry_made dim m) ∷ []) before
    ∙ ap (λ (c : List ℕ). map (packed_made dim) (reverse left) ++ taken_of c (entry_made dim m) ∷ []) body
    ∙ sym (map-append (packed_made dim) (reverse left) (m ∷ []))
    ∙ ap (map (packed_made dim)) (sym (reverse-append (m ∷ []) left))

-- what is taken off a session that ran these commands
pub packs : (cs : List Step) (from v : SessionValue) → from.entries ≡ [] → AllLogAs cs from v → state_of v ≡ after_all cs (state_of from) → IsSessionValue v
    → all_taken v.body (reverse v.entries) ≡ packed_after cs (state_of from)
packs cs from v none logs after sound =
    let base : List Element = (state_of from).top in
    let left : List RemainingEdit = with_steps cs (state_of from) [] in
    let log : IsLogOf v left = logs [] (ap (λ (es : List Entry). reverse es) none) in
    let start : IsStacked base (state_of from) [] = ap (λ (es : List Entry). base ∷ earlier_of from.dim from.body (reverse es)) none in
    let stacked : IsStacked base (state_of v) left = subst (λ (s : State). IsStacked base s left) (sym after) (steps_stack base cs (state_of from) [] start) in
    let dim : v.dim ≡ from.dim = ap (λ (s : State). s.dim) after ∙ steps_dim cs (state_of from) in
    let lists = bodies_first v.dim v.body (reverse v.entries) ∙ stacked in
    ap (all_taken v.body) log
    ∙ taken_are v.dim v.tail v.body base left (subst (AreKept v.dim v.tail v.body) log sound)
    (subst (λ (es : List Entry). map (elements_of v.dim) (bodies v.body es) ≡ lists_made left ++ base ∷ []) log lists)
    ∙ ap (λ (k : ℕ). map (packed_made k) (reverse left)) dim

-- Entries that are taken off, the newest first: what was taken so far, and what is left to take.

-- these are taken off
pub record TakenSo (from v : SessionValue) (taken : List PatchEntry) : Type 0 where
  pub whole : all_taken from.body (reverse from.entries) ≡ all_taken v.body (reverse v.entries) ++ reverse (all_packed taken)
  pub long : length v.entries + length taken ≡ length from.entries

-- a log is empty once as many are taken as it had
none_left : (es : List Entry) → length es ≡ 0 → es ≡ []
none_left [] none = refl
none_left (e ∷ es) none = absurd (omega (arith, none))

reversed_packed : (taken : List PatchEntry) → reverse (all_packed taken) ≡ all_packed (reverse taken)
reversed_packed [] = refl
reversed_packed (p ∷ taken) =
    reverse-append (packed_of p ∷ []) (all_packed taken)
    ∙ ap (λ (ps : List Packed). ps ++ packed_of p ∷ []) (reversed_packed taken)
    ∙ sym (map-append packed_of (reverse taken) (p ∷ []))
    ∙ ap all_packed (sym (reverse-append (p ∷ []) taken))

pub taken_all : (from v : SessionValue) (taken all : List PatchEntry) → TakenSo from v taken → length from.entries ≡ length taken → all ≡ reverse taken
    → all_packed all ≡ all_taken from.body (reverse from.entries)
taken_all from v taken all so many is =
    let none : v.entries ≡ [] = none_left v.entries (omega (arith, so.long, many)) in
    ap all_packed is ∙ sym (reversed_packed taken)
    ∙ sym (so.whole ∙ ap (λ (es : List Entry). all_taken v.body (reverse es) ++ reverse (all_packed taken)) none)

-- the outcome, by the bytes that are written and the text that is said
pub filed_so : (entries : List PatchEntry) (refused : ℕ) (patch file text : List ℕ) (status : Status) → file ≡ patch_spelling (all_packed entries)
    → text ≡ numbered (codes "entries ") (length entries) → status ≡ status_with refused
    → filed_patch (all_packed entries) refused patch ≡ filed_then_said status text patch (file ++ ([] ++ []))
filed_so entries refused patch file text status spelled said is =
    ap (λ (st : Status). filed_then_said st (numbered (codes "entries ") (length (all_packed entries))) patch (patch_spelling (all_packed entries))) (sym is)
    ∙ ap (λ (x : List ℕ). filed_then_said status x patch (patch_spelling (all_packed entries)))
    (ap (numbered (codes "entries ")) (length-map entries packed_of) ∙ sym said)
    ∙ ap (filed_then_said status text patch) (sym spelled ∙ sym (append-nil file))

pub packed_long : (cs : List Step) (s : State) (es : List Packed) (patch : List ℕ) → es ≡ packed_after cs s → MOST_PATCH < length (patch_spelling es)
    → ended statuses.TooLong (codes "too long patch\n") ≡ packed_from s cs patch
packed_long cs s es patch same long =
    let over : MOST_PATCH < length (patch_spelling (packed_after cs s)) = subst (λ (ps : List Packed). MOST_PATCH < length (patch_spelling ps)) same long in
    let test : nat_lt MOST_PATCH (length (patch_spelling (packed_after cs s))) ≡ true = grind (arith, nat_tests) in
    sym (ap (λ (b : Bool). cond b (ended statuses.TooLong (codes "too long patch\n")) (filed_patch (packed_after cs s) (refused_count cs s) patch)) test)

pub beyond_cap : (n x : ℕ) → n ≡ min x 18446744073709551615 → MOST_PATCH < n → MOST_PATCH < x
beyond_cap n x is lt = omega arith
