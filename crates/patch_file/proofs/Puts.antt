-- What stands where puts are laid and written back.
use Rattle.std.proofs.Common.{ℕ, ◌≡◌, ◌+◌, ◌≤◌, List, [], ◌∷◌, ◌++◌, length, take, drop, map, refl, ap, sym, ◌∙◌, subst, arith, length-append, length-drop}
use Rattle.std.proofs.Common.{length-take}
use Rattle.std.specs.List.{AllByRecursion}
use Rattle.std.proofs.lemmas.List.{take-append-drop, take-append-le, drop-append-le, take_at, drop_at}
use Rattle.patch_bytes.specs.Puts.{Put, lay, write, write_back, old_of, IsWithin, AreWithin, IsApart, AreApart, Span}
use Rattle.patch_bytes.proofs.PutsLaid.{within_laid, length-write, length-write_back, lay-old_of, old_of-old_of, old_of-lay, write_front}
use Rattle.patch_bytes.proofs.RisingPuts.{span_within, span_apart}
use Rattle.undo_log.specs.declared.entry.Entry.{Entry}
use Rattle.undo_log.specs.Entries.{entry_of, back, back_by}
use Rattle.undo_log.specs.Commits.{Change, changed, MayCommit}
use Rattle.patch_file.specs.Exchanges.{Exchange, IsSized, AllKeepRules}
use Rattle.patch_file.specs.Spelling.{Packed}
use Rattle.patch_file.specs.Standing.{HoldsOld, Stands, new_of, put_on, exchanged, taken_of, MayTake, AllStand, put_all, all_taken, MayTakeAll}
use Rattle.patch_file.specs.Laws.{exchange_made}

apart_from : (p q : Put) → IsApart p q → IsApart q p
apart_from p q a = record { none = λ k held also. a.none k also held }

-- what stands at a place hangs on the place and on how many bytes are asked for
same_place : (b : List ℕ) (p q : Put) → p.at ≡ q.at → length p.bytes ≡ length q.bytes → old_of b p ≡ old_of b q
unfolding old_of
same_place b p q e f = rw (e, f)

at-old_of : (b : List ℕ) (p : Put) → p.at ≡ (old_of b p).at
unfolding old_of
at-old_of b p = refl

long-old_of : (b : List ℕ) (p : Put) → IsWithin (length b) p → length p.bytes ≡ length (old_of b p).bytes
unfolding old_of
long-old_of b p w = let e = w.ends in omega (arith, length-take (length p.bytes) (drop p.at b), length-drop p.at b)

-- where a put is laid stands what it puts
pub laid_there : (b : List ℕ) (p : Put) → IsWithin (length b) p → old_of (lay b p) p ≡ p
laid_there b p w = same_place (lay b p) p (old_of b p) (at-old_of b p) (long-old_of b p w) ∙ old_of-old_of b p w

old_of-write : (b : List ℕ) (p : Put) (ps : List Put) → AreWithin (length b) ps → AllByRecursion (IsApart p) ps → old_of (write b ps) p ≡ old_of b p
old_of-write b p [] w a = refl
old_of-write b p (q ∷ qs) w a =
    old_of-write (lay b q) p qs (within_laid b q qs w.0 w.1) a.1 ∙ old_of-lay b q p w.0 (apart_from p q a.0)

pub old_of-write_back : (b : List ℕ) (p : Put) (ps : List Put) → AreWithin (length b) ps → AllByRecursion (IsApart p) ps
    → old_of (write_back b ps) p ≡ old_of b p
old_of-write_back b p [] w a = refl
old_of-write_back b p (q ∷ qs) w a =
    let same : length b ≡ length (write_back b qs) = sym (length-write_back b qs w.1) in
    old_of-lay (write_back b qs) q p (subst (λ n. IsWithin n q) same w.0) (apart_from p q a.0) ∙ old_of-write_back b p qs w.1 a.1

-- what was written stands at its place
pub written_there : (b : List ℕ) (ps : List Put) → AreWithin (length b) ps → AreApart ps → AllByRecursion (λ p. old_of (write b ps) p ≡ p) ps
written_there b [] w a = tt
written_there b (p ∷ ps) w a =
    let w' = within_laid b p ps w.0 w.1 in
    (old_of-write (lay b p) p ps w' a.0 ∙ laid_there b p w.0, written_there (lay b p) ps w' a.1)

moved : (c d : List ℕ) (qs : List Put) → AllByRecursion (λ q. old_of d q ≡ old_of c q) qs → AllByRecursion (λ q. old_of c q ≡ q) qs
    → AllByRecursion (λ q. old_of d q ≡ q) qs
moved c d [] same there = tt
moved c d (q ∷ qs) same there = (same.0 ∙ there.0, moved c d qs same.1 there.1)

laid_apart : (c : List ℕ) (p : Put) (qs : List Put) → IsWithin (length c) p → AllByRecursion (IsApart p) qs
    → AllByRecursion (λ q. old_of (lay c p) q ≡ old_of c q) qs
laid_apart c p [] w a = tt
laid_apart c p (q ∷ qs) w a = (old_of-lay c p q w a.0, laid_apart c p qs w a.1)

-- and so does what was written back
pub back_there : (b : List ℕ) (ps : List Put) → AreWithin (length b) ps → AreApart ps → AllByRecursion (λ p. old_of (write_back b ps) p ≡ p) ps
back_there b [] w a = tt
back_there b (p ∷ ps) w a =
    let c : List ℕ = write_back b ps in
    let same : length b ≡ length (write_back b ps) = sym (length-write_back b ps w.1) in
    let w' : IsWithin (length c) p = subst (λ n. IsWithin n p) same w.0 in
    (laid_there c p w', moved c (lay c p) ps (laid_apart c p ps w' a.0) (back_there b ps w.1 a.1))

-- what stood where puts were written back, written there again, gives the bytes before
pub written_again : (b : List ℕ) (ps : List Put) → AreWithin (length b) ps → AreApart ps → write (write_back b ps) (map (old_of b) ps) ≡ b
written_again b [] w a = refl
written_again b (p ∷ ps) w a =
    let c : List ℕ = write_back b ps in
    let same : length b ≡ length (write_back b ps) = sym (length-write_back b ps w.1) in
    let w' : IsWithin (length c) p = subst (λ n. IsWithin n p) same w.0 in
    let old : old_of b p ≡ old_of c p = sym (old_of-write_back b p ps w.1 a.0) in
    rw (old, lay-old_of c p w') (written_again b ps w.1 a.1)

-- what stands in a front part stands in the whole
pub old_of-append : (b more : List ℕ) (p : Put) → IsWithin (length b) p → old_of (b ++ more) p ≡ old_of b p
unfolding old_of
old_of-append b more p w =
    let e = w.ends in
    rw (drop-append-le p.at b more (omega arith), take-append-le (length p.bytes) (drop p.at b) more (omega (arith, length-drop p.at b)))

olds-append : (b more : List ℕ) (ps : List Put) → AreWithin (length b) ps → map (old_of (b ++ more)) ps ≡ map (old_of b) ps
olds-append b more [] w = refl
olds-append b more (p ∷ ps) w = rw (old_of-append b more p w.0, olds-append b more ps w.1)

-- the new bytes of what is exchanged are those that stand there
news_are : (b : List ℕ) (ps : List Put) → map new_of (map (exchanged b) ps) ≡ map (old_of b) ps
unfolding old_of
news_are b [] = refl
news_are b (p ∷ ps) = ap (λ (qs : List Put). old_of b p ∷ qs) (news_are b ps)

holds_there : (b c : List ℕ) (p : Put) → old_of c p ≡ p → HoldsOld c (exchanged b p)
unfolding old_of
holds_there b c p e = ap (λ (q : Put). q.bytes) e

all_hold_there : (b c : List ℕ) (ps : List Put) → AllByRecursion (λ p. old_of c p ≡ p) ps → AllByRecursion (HoldsOld c) (map (exchanged b) ps)
all_hold_there b c [] there = tt
all_hold_there b c (p ∷ ps) there = (holds_there b c p there.0, all_hold_there b c ps there.1)

pub taken_gives_the_same : (b : List ℕ) (e : Entry) → MayTake b e → Stands (back b e) (taken_of b e) × (put_on (back b e) (taken_of b e) ≡ b)
taken_gives_the_same b e may =
    let enough = may.long in
    let a : List ℕ = take e.len b in
    let ps : List Put = e.patches in
    let long : length a ≡ e.len = omega (arith, length-take e.len b) in
    let within : AreWithin (length a) ps = subst (λ n. AreWithin n ps) (sym long) (span_within e.len ps 0 may.rising) in
    let apart : AreApart ps = span_apart e.len ps 0 may.rising in
    let whole : a ++ drop e.len b ≡ b = take-append-drop e.len b in
    let news : map new_of (map (exchanged b) ps) ≡ map (old_of a) ps =
    news_are b ps ∙ ap (λ (x : List ℕ). map (old_of x) ps) (sym whole) ∙ olds-append a (drop e.len b) ps within in
    let written : write (write_back a ps) (map new_of (map (exchanged b) ps)) ≡ a =
    ap (write (write_back a ps)) news ∙ written_again a ps within apart in (
      record { long = length-write_back a ps within ∙ long; fields = all_hold_there b (write_back a ps) ps (back_there a ps within apart) },
      ap (λ (x : List ℕ). x ++ drop e.len b) written ∙ whole,
    )

one_edit : (b d : List ℕ) (p : Put) → old_of d (old_of b p) ≡ p → exchanged d (old_of b p) ≡ exchange_made b p
unfolding old_of
one_edit b d p e =
    let made : List ℕ → Exchange = λ x. record { at = p.at; was = (old_of b p).bytes; put = x } in
    ap (λ (q : Put). made q.bytes) e

apart_there : (b more : List ℕ) (ps : List Put) → AreWithin (length b) ps → AllByRecursion (λ q. old_of (b ++ more) q ≡ old_of b q) ps
apart_there b more [] w = tt
apart_there b more (p ∷ ps) w = (old_of-append b more p w.0, apart_there b more ps w.1)

-- what stands where an edit wrote is what it wrote, with bytes appended too
edits_are : (b d : List ℕ) (ps : List Put) → AreWithin (length b) ps → AllByRecursion (λ p. old_of d p ≡ p) ps
    → map (exchanged d) (map (old_of b) ps) ≡ map (exchange_made b) ps
edits_are b d [] w there = refl
edits_are b d (p ∷ ps) w there =
    let same : old_of d (old_of b p) ≡ p = sym (same_place d p (old_of b p) (at-old_of b p) (long-old_of b p w.0)) ∙ there.0 in
    rw (one_edit b d p same, edits_are b d ps w.1 there.1)

pub taken_is_the_edit : (b : List ℕ) (c : Change) → MayCommit b c
    → taken_of (changed b c) (entry_of b c.patches) ≡ record { len = length b; fields = map (exchange_made b) c.patches; append = c.append }
taken_is_the_edit b c may =
    let ps : List Put = c.patches in
    let n : length (write b ps) ≡ length b = length-write b ps may.within in
    let append : drop (length b) (write b ps ++ c.append) ≡ c.append = drop_at (write b ps) c.append (length b) n in
    let within : AreWithin (length (write b ps)) ps = subst (λ k. AreWithin k ps) (sym n) may.within in
    let there : AllByRecursion (λ p. old_of (write b ps ++ c.append) p ≡ p) ps =
    moved (write b ps) (write b ps ++ c.append) ps (apart_there (write b ps) c.append ps within) (written_there b ps may.within may.apart) in
    rw (edits_are b (write b ps ++ c.append) ps may.within there, append)

-- what is taken off keeps the rules
pub taken_rules : (b : List ℕ) (n m : ℕ) (ps : List Put) → Span n ps m → AllByRecursion IsSized (map (exchanged b) ps) → AllKeepRules n m (map (exchanged b) ps)
taken_rules b n m [] s z = tt
taken_rules b n m (p ∷ ps) s z =
    let within = (span_within m (p ∷ ps) n s).0 in
    (record { least = z.0.least; most = z.0.most; same = z.0.same; behind = s.0; within = within.ends }, taken_rules b (p.at + length p.bytes) m ps s.1 z.1)

-- what lies in n bytes lies in more
pub within_more : (n m : ℕ) (ps : List Put) → n ≤ m → AreWithin n ps → AreWithin m ps
within_more n m [] le w = tt
within_more n m (p ∷ ps) le w = let e = w.0.ends in (record { ends = omega arith }, within_more n m ps le w.1)

-- the new bytes of fields that keep the rules lie in the old length
pub news_within : (from len : ℕ) (fs : List Exchange) → AllKeepRules from len fs → AreWithin len (map new_of fs)
news_within from len [] rules = tt
news_within from len (f ∷ fs) rules =
    let within = rules.0.within in
    let same = rules.0.same in
    (record { ends = omega arith }, news_within (f.at + length f.was) len fs rules.1)

-- puts that are written once more bytes are appended
pub put_whole : (old append x y : List ℕ) (ps : List Put) (n : ℕ) → AreWithin (length old) ps → y ≡ old ++ append → x ≡ write y ps → n ≡ length y
    → take n (x ++ drop (length x) y) ≡ write old ps ++ append
put_whole old append x y ps n w more written e =
    let y' : length y ≡ length old + length append = ap length more ∙ length-append old append in
    let w' : AreWithin (length y) ps = within_more (length old) (length y) ps (omega arith) w in
    let same : length x ≡ length y = ap length written ∙ length-write y ps w' in
    take_at x (drop (length x) y) n (omega arith)
    ∙ written ∙ ap (λ (b : List ℕ). write b ps) more ∙ write_front old append ps w

-- one entry more
stand_more : (b : List ℕ) (es : List Packed) (e : Packed) → AllStand b es → Stands (put_all b es) e → AllStand b (es ++ e ∷ [])
stand_more b [] e all one = (one, tt)
stand_more b (f ∷ fs) e all one = (all.0, stand_more (put_on b f) fs e all.1 one)

put_more : (b : List ℕ) (es : List Packed) (e : Packed) → put_all b (es ++ e ∷ []) ≡ put_on (put_all b es) e
put_more b [] e = refl
put_more b (f ∷ fs) e = put_more (put_on b f) fs e

pub all_taken_give_the_same : (b : List ℕ) (es : List Entry) → MayTakeAll b es → AllStand (back_by (length es) b es) (all_taken b es)
    × (put_all (back_by (length es) b es) (all_taken b es) ≡ b)
all_taken_give_the_same b [] may = (tt, refl)
all_taken_give_the_same b (e ∷ es) may =
    let start : List ℕ = back_by (length es) (back b e) es in
    let before : List Packed = all_taken (back b e) es in
    let rest = all_taken_give_the_same (back b e) es may.1 in
    let one = taken_gives_the_same b e may.0 in (
      stand_more start before (taken_of b e) rest.0 (subst (λ (x : List ℕ). Stands x (taken_of b e)) (sym rest.1) one.0),
      put_more start before (taken_of b e) ∙ ap (λ (x : List ℕ). put_on x (taken_of b e)) rest.1 ∙ one.1,
    )

-- what stood where patches rise rises too
olds_rise : (b : List ℕ) (n : ℕ) (ps : List Put) → n ≤ length b → Span n ps (length b) → Span n (map (old_of b) ps) (length b)
olds_rise b n [] le s = le
olds_rise b n (p ∷ ps) le s =
    let w : IsWithin (length b) p = (span_within (length b) (p ∷ ps) n s).0 in
    let ends : p.at + length p.bytes ≡ (old_of b p).at + length (old_of b p).bytes =
    ap (λ (k : ℕ). p.at + k) (long-old_of b p w) ∙ ap (λ (k : ℕ). k + length (old_of b p).bytes) (at-old_of b p) in (
      subst (λ (k : ℕ). n ≤ k) (at-old_of b p) s.0,
      subst (λ (k : ℕ). Span k (map (old_of b) ps) (length b)) ends (olds_rise b (p.at + length p.bytes) ps w.ends s.1),
    )

pub edits_may_be_taken : (b : List ℕ) (c : Change) → Span 0 c.patches (length b) → MayTake (changed b c) (entry_of b c.patches)
edits_may_be_taken b c s =
    let ps : List Put = c.patches in
    let same : length (write b ps) ≡ length b = length-write b ps (span_within (length b) ps 0 s) in
    record {
      long = omega (arith, length-append (write b ps) c.append);
      rising = olds_rise b 0 ps (omega arith) s;
    }
