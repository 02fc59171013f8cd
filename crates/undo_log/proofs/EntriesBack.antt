-- Entries: the one that a commit adds, and what writing it back gives.
use Rattle.std.proofs.Common.{◌≡◌, ℕ, ◌+◌, ◌≤◌, zero, suc, List, [], ◌∷◌, ◌++◌, length, take, drop, map, reverse, refl, ap, sym, ◌∙◌, subst, arith}
use Rattle.std.proofs.Common.{length-append}
use Rattle.std.proofs.lemmas.List.{take_at, length-take-le, reverse-append, same_from_push}
use Rattle.patch_bytes.specs.Puts.{Put, write, write_back, old_of, olds, AreWithin, AreApart}
use Rattle.patch_bytes.proofs.PutsLaid.{length-write, length-write_back, all_restored, olds_are, within-map_old_of}
use Rattle.undo_log.specs.declared.entry.Entry.{Entry}
use Rattle.undo_log.specs.Entries.{entry_of, back, back_by, bodies, Fits, NewestFits, AreFit, IsUndone}
use Rattle.undo_log.specs.Commits.{Change, changed, MayCommit, body_after, AreCommits, entries_after}

-- what is pushed is the entry: es were the entries, fs what the push found, b the body, c what the patches were written into
pub entry_added : (es fs gs : List Entry) (b c : List ℕ) (ps qs : List Put) (n : ℕ) → gs ≡ fs ++ record { patches = qs; len = n } ∷ [] → fs ≡ es
    → qs ≡ olds c ps → c ≡ b → n ≡ length b → AreWithin (length b) ps → AreApart ps → gs ≡ es ++ entry_of b ps ∷ []
entry_added es fs gs b c ps qs n pushed found swapped value len w a =
    let held : qs ≡ map (old_of b) ps = swapped ∙ ap (λ x. olds x ps) value ∙ olds_are b ps w a in
    let made : List Put → ℕ → Entry = λ x m. record { patches = x; len = m } in
    pushed
    ∙ ap (λ l. l ++ made qs n ∷ []) found
    ∙ ap (λ x. es ++ made x n ∷ []) held
    ∙ ap (λ m. es ++ made (map (old_of b) ps) m ∷ []) len

-- what the edit left, cut to the length before it, is the body with the patches written
cut : (b a : List ℕ) (ps : List Put) → AreWithin (length b) ps → take (length b) (write b ps ++ a) ≡ write b ps
cut b a ps w = take_at (write b ps) a (length b) (length-write b ps w)

pub entry_restores : (b : List ℕ) (c : Change) → MayCommit b c → back (changed b c) (entry_of b c.patches) ≡ b
entry_restores b c may =
    ap (λ x. write_back x (map (old_of b) c.patches)) (cut b c.append c.patches may.within)
    ∙ ap (write_back (write b c.patches)) (sym (olds_are b c.patches may.within may.apart))
    ∙ all_restored b c.patches may.within

pub entry_fits : (b : List ℕ) (c : Change) → MayCommit b c → Fits (length (changed b c)) (entry_of b c.patches)
entry_fits b c may =
    let all : length (write b c.patches ++ c.append) ≡ length (write b c.patches) + length c.append = length-append (write b c.patches) c.append in
    let written : length (write b c.patches) ≡ length b = length-write b c.patches may.within in
    record { long = omega arith; within = within-map_old_of b c.patches (length b) may.within }

pub length-back : (b : List ℕ) (e : Entry) → Fits (length b) e → length (back b e) ≡ e.len
length-back b e f =
    let long = f.long in
    let front : length (take e.len b) ≡ e.len = length-take-le e.len b long in
    length-write_back (take e.len b) e.patches (subst (λ n. AreWithin n e.patches) (sym front) f.within) ∙ front

newest : (es : List Entry) (e : Entry) → reverse (es ++ e ∷ []) ≡ e ∷ reverse es
newest es e = reverse-append es (e ∷ [])

pub undo_takes_back : (b : List ℕ) (c : Change) (es new : List Entry) (d : List ℕ) → MayCommit b c
    → IsUndone (es ++ entry_of b c.patches ∷ []) (changed b c) new d → (new ≡ es) × (d ≡ b)
undo_takes_back b c es new d may u =
    let same = same_from_push es new (entry_of b c.patches) u.last u.dropped in
    (sym same.0, u.body ∙ ap (back (changed b c)) (sym same.1) ∙ entry_restores b c may)

pub undo_may_follow : (b : List ℕ) (c : Change) (es : List Entry) → MayCommit b c
    → NewestFits (length (changed b c)) (reverse (es ++ entry_of b c.patches ∷ []))
undo_may_follow b c es may = subst (NewestFits (length (changed b c))) (sym (newest es (entry_of b c.patches))) (entry_fits b c may)

pub commits_restore : (b : List ℕ) (cs : List Change) (older : List Entry) → AreCommits b cs → (k : ℕ) → k ≤ length cs
    → back_by k (body_after b cs) (entries_after b cs ++ older) ≡ body_after b (drop k cs)
commits_restore b cs older all zero h = refl
commits_restore b [] older all (suc k) h = absurd (omega (arith, h))
commits_restore b (c ∷ cs) older all (suc k) h =
    ap (λ x. back_by k x (entries_after b cs ++ older)) (entry_restores (body_after b cs) c all.0)
    ∙ commits_restore b cs older all.1 k (omega (arith, h))

pub commits_fit : (b : List ℕ) (cs : List Change) (older : List Entry) → AreCommits b cs → AreFit b older
    → AreFit (body_after b cs) (entries_after b cs ++ older)
commits_fit b [] older all fit = fit
commits_fit b (c ∷ cs) older all fit = (
  entry_fits (body_after b cs) c all.0,
  subst (λ x. AreFit x (entries_after b cs ++ older)) (sym (entry_restores (body_after b cs) c all.0)) (commits_fit b cs older all.1 fit),
)

pub commit_pushes : (b : List ℕ) (c : Change) (es : List Entry) → MayCommit b c → bodies (changed b c) (entry_of b c.patches ∷ es) ≡ changed b c ∷ bodies b es
commit_pushes b c es may = ap (λ x. changed b c ∷ bodies x es) (entry_restores b c may)
