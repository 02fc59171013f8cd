-- Each header that changes is followed by the members that its new total asks for, also after mending.
use Rattle.std.proofs.Common.{◌≡◌, ℕ, zero, suc, ◌+◌, ◌*◌, ◌<◌, ◌≤◌, ◌==◌, Bool, true, false, cond, List, [], ◌∷◌, ◌++◌, length, take, drop, refl, sym, ap, ◌∙◌, subst, arith}
use Rattle.std.proofs.Common.{Option, Some, None, length-append}
use Rattle.std.specs.Prelude.{◌&&◌, not, IsTrue, IfSome}
use Rattle.std.specs.List.{AllByRecursion}
use Rattle.std.proofs.lemmas.List.{take-append-drop, take-append-le, take_at, length-take-le}
use Rattle.std.proofs.lemmas.Bool.{cond_both, both_ways}
use Rattle.dgn_layout.specs.Classes.{class_of, is_among}
use Rattle.dgn_layout.specs.declared.TheConstants.{SHARED_CELL}
use Rattle.dgn_drawing.specs.Element.{Element}
use Rattle.dgn_drawing.specs.Spelling.{size_of}
use Rattle.dgn_drawing.specs.WellFormed.{IsWellFormed}
use Rattle.dgn_drawing.specs.Nesting.{is_counted, AreMembers, front_count, is_spline_part, has_bit, bytes_of}
use Rattle.dgn_drawing.specs.Rows.{row_of, total_of}
use Rattle.dgn_drawing.specs.Opening.{Opens}
use Rattle.edit_ops.specs.Causes.{is_locked}
use Rattle.edit_ops.proofs.EachLive.{each_first, each_last}
use Rattle.dgn_mend.specs.Mending.{body_totalled, put_right, found, overflowing, Taken, passed, frees, still_waiting, counted_taken, taken, mended_within, mend, has_changed}
use Rattle.dgn_mend.specs.Laws.{HaveMembers, ChangedHeadersHaveMembers}
use Rattle.dgn_mend.proofs.HeadersPut.{header_put, total_put, total_small}
use Rattle.dgn_mend.proofs.ElementsMended.{unchanged, found_small, head_turned}
use Rattle.dgn_mend.proofs.MembersTaken.{AreMarked, HasMembers, found_members, taken_marked}

-- as large, and with bit C or without it as before
abbrev AreAlike : List Element → List Element → Type 0
AreAlike [] [] = Unit {0}
AreAlike (e ∷ es) (m ∷ ms) = (size_of m ≡ size_of e) × (m.cbit ≡ e.cbit) × AreAlike es ms
AreAlike es ms = ⊥

all_alike : (es : List Element) → AreAlike es es
all_alike [] = tt
all_alike (e ∷ es) = (refl, refl, all_alike es)

alike_join : (es ms es' ms' : List Element) → AreAlike es ms → AreAlike es' ms' → AreAlike (es ++ es') (ms ++ ms')
alike_join [] [] es' ms' one two = two
alike_join (e ∷ es) (m ∷ ms) es' ms' one two = (one.0, one.1, alike_join es ms es' ms' one.2 two)
alike_join [] (m ∷ ms) es' ms' one two = absurd one
alike_join (e ∷ es) [] es' ms' one two = absurd one

alike_length : (es ms : List Element) → AreAlike es ms → length ms ≡ length es
alike_length [] [] one = refl
alike_length (e ∷ es) (m ∷ ms) one = omega (arith, alike_length es ms one.2)
alike_length [] (m ∷ ms) one = absurd one
alike_length (e ∷ es) [] one = absurd one

alike_bytes : (es ms : List Element) → AreAlike es ms → bytes_of row_of ms ≡ bytes_of row_of es
alike_bytes [] [] one = refl
alike_bytes (e ∷ es) (m ∷ ms) one = omega (arith, alike_bytes es ms one.2, one.0)
alike_bytes [] (m ∷ ms) one = absurd one
alike_bytes (e ∷ es) [] one = absurd one

alike_marked : (es ms : List Element) → AreAlike es ms → AllByRecursion (λ (e : Element). IsTrue e.cbit) es → AllByRecursion (λ (e : Element). IsTrue e.cbit) ms
alike_marked [] [] one marked = tt
alike_marked (e ∷ es) (m ∷ ms) one marked = (one.1 ∙ marked.0, alike_marked es ms one.2 marked.1)
alike_marked [] (m ∷ ms) one marked = absurd one
alike_marked (e ∷ es) [] one marked = absurd one

-- below a header bit C stays
kept : (c : Bool) → (c && not false) ≡ c
kept true = refl
kept false = refl

right_cbit : (t : ℕ) (h : Element) → (put_right false t h).cbit ≡ h.cbit
right_cbit t h =
    cond_both (is_locked h.body) h (record h { cbit = h.cbit && not false; body = body_totalled t h.body }) (λ m. m.cbit ≡ h.cbit) (λ _. refl)
    (λ _. kept h.cbit)

counted_cbit : (dim : ℕ) (w : List Element) (h : Element) (o : Option (ℕ × ℕ)) (lost : Option ℕ) → (counted_taken dim false w h o lost).head.cbit ≡ h.cbit
counted_cbit dim w h (Some m) lost = right_cbit m.0 h
counted_cbit dim w h None (Some k) = refl
counted_cbit dim w h None None = refl

head_cbit : (dim : ℕ) (w : List Element) (h : Element) (r : List Element) → (taken dim false w h r).head.cbit ≡ h.cbit
head_cbit dim w h r =
    let splines : ℕ = front_count (λ e. is_spline_part (row_of e)) r in
    let parts : ℕ = front_count (λ e. has_bit (row_of e)) r in
    let last : Taken = cond ((h.kind == SHARED_CELL) && false) (passed h parts true w) (passed h 0 false w) in
    let run : Taken = cond (is_among h.kind (24 ∷ 27 ∷ [])) (passed h splines false w) last in
    cond_both (is_counted (class_of h.kind)) (counted_taken dim false w h (found h r) (overflowing h r)) run (λ t. t.head.cbit ≡ h.cbit)
    (λ _. counted_cbit dim w h (found h r) (overflowing h r))
    (λ _. cond_both (is_among h.kind (24 ∷ 27 ∷ [])) (passed h splines false w) last (λ t. t.head.cbit ≡ h.cbit) (λ _. refl)
    (λ _. cond_both ((h.kind == SHARED_CELL) && false) (passed h parts true w) (passed h 0 false w) (λ t. t.head.cbit ≡ h.cbit) (λ _. refl) (λ _. refl)))

below_alike : (n dim : ℕ) (w l : List Element) → AllByRecursion (IsWellFormed dim) l → AreAlike l (mended_within n dim false w l)
unfolding mended_within
below_alike zero dim w l good = all_alike l
below_alike (suc n) dim w [] good = tt
below_alike (suc n) dim w (h ∷ r) good =
    let t : Taken = taken dim false w h r in
    let split : take t.below r ++ drop t.below r ≡ r = take-append-drop t.below r in
    let both : AllByRecursion (IsWellFormed dim) (take t.below r ++ drop t.below r) = subst (AllByRecursion (IsWellFormed dim)) (sym split) good.1 in
    let first = each_first (IsWellFormed dim) (take t.below r) (drop t.below r) both in
    let last = each_last (IsWellFormed dim) (take t.below r) (drop t.below r) both in
    let below : List Element = cond t.goes (mended_within n dim false [] (take t.below r)) (take t.below r) in
    let one : AreAlike (take t.below r) below =
    cond_both t.goes (mended_within n dim false [] (take t.below r)) (take t.below r) (λ ms. AreAlike (take t.below r) ms)
    (λ _. below_alike n dim [] (take t.below r) first) (λ _. all_alike (take t.below r)) in
    let behind : List Element = mended_within n dim false t.waiting (drop t.below r) in (
      (head_turned dim false w h r good.0).from.size,
      head_cbit dim w h r,
      subst (λ (x : List Element). AreAlike x (below ++ behind)) split
          (alike_join (take t.below r) below (drop t.below r) behind one (below_alike n dim t.waiting (drop t.below r) last)),
    )

-- a first element that changes is a header with its members behind it
abbrev HasItsMembers : Element → List Element → Taken → Type 0
HasItsMembers h r t = has_changed h t.head ≡ true → (t.goes ≡ true) × HasMembers t.head (total_of t.head.body) r t.below

unchanged_has : (h : Element) (r : List Element) (t : Taken) → t.head ≡ h → HasItsMembers h r t
unchanged_has h r t same changed =
    absurd (both_ways (has_changed h h) (unchanged (total_of h.body) h.cbit) (ap (λ (x : Element). has_changed h x) (sym same) ∙ changed))

word_found : (h : Element) (r : List Element) (m : ℕ × ℕ) → total_of h.body < 65536 → found h r ≡ Some m → m.0 < 65536
word_found h r m small is = subst (λ (o : Option (ℕ × ℕ)). IfSome o (λ (x : ℕ × ℕ). x.0 < 65536)) is (found_small h r small)

right_has : (dim : ℕ) (free : Bool) (h : Element) (r : List Element) (m : ℕ × ℕ) → is_counted (class_of h.kind) ≡ true → IsWellFormed dim h
    → found h r ≡ Some m → has_changed h (put_right free m.0 h) ≡ true
    → HasMembers (put_right free m.0 h) (total_of (put_right free m.0 h).body) r m.1
right_has dim free h r m counted good is =
    let small = word_found h r m (total_small dim h counted good) is in
    let members = found_members h r m is in
    let x : Element = record h { cbit = h.cbit && not free; body = body_totalled m.0 h.body } in
    cond_both (is_locked h.body) h x (λ (z : Element). has_changed h z ≡ true → HasMembers z (total_of z.body) r m.1)
    (λ _ changed. absurd (both_ways (has_changed h h) (unchanged (total_of h.body) h.cbit) changed))
    (λ _ changed. record {
      are = members.are;
      bytes = omega (arith, members.bytes, (header_put dim h free m.0 small counted good).size, total_put dim h m.0 counted good);
    })

counted_has : (dim : ℕ) (top : Bool) (w : List Element) (h : Element) (r : List Element) (o : Option (ℕ × ℕ)) (lost : Option ℕ)
    → is_counted (class_of h.kind) ≡ true → IsWellFormed dim h → found h r ≡ o → HasItsMembers h r (counted_taken dim top w h o lost)
counted_has dim top w h r (Some m) lost counted good is = λ changed. (refl, right_has dim (frees dim top w h) h r m counted good is changed)
counted_has dim top w h r None (Some k) counted good is = unchanged_has h r (passed h k false w) refl
counted_has dim top w h r None None counted good is = unchanged_has h r (counted_taken dim top w h None None) refl

taken_has : (dim : ℕ) (top : Bool) (w : List Element) (h : Element) (r : List Element) → IsWellFormed dim h → HasItsMembers h r (taken dim top w h r)
taken_has dim top w h r good =
    let splines : ℕ = front_count (λ e. is_spline_part (row_of e)) r in
    let parts : ℕ = front_count (λ e. has_bit (row_of e)) r in
    let last : Taken = cond ((h.kind == SHARED_CELL) && top) (passed h parts true w) (passed h 0 false w) in
    let run : Taken = cond (is_among h.kind (24 ∷ 27 ∷ [])) (passed h splines false w) last in
    cond_both (is_counted (class_of h.kind)) (counted_taken dim top w h (found h r) (overflowing h r)) run (HasItsMembers h r)
    (λ counted. counted_has dim top w h r (found h r) (overflowing h r) counted good refl)
    (λ _. cond_both (is_among h.kind (24 ∷ 27 ∷ [])) (passed h splines false w) last (HasItsMembers h r)
    (λ _. unchanged_has h r (passed h splines false w) refl)
    (λ _. cond_both ((h.kind == SHARED_CELL) && top) (passed h parts true w) (passed h 0 false w) (HasItsMembers h r)
    (λ _. unchanged_has h r (passed h parts true w) refl) (λ _. unchanged_has h r (passed h 0 false w) refl)))

-- members stay members among elements that are alike, with whatever is behind them
members_over : (m : Element) (r below behind : List Element) (k : ℕ) → HasMembers m (total_of m.body) r k → AreAlike (take k r) below
    → AreMembers row_of m (below ++ behind) k
members_over m r below behind k has alike =
    let long : length below ≡ k = alike_length (take k r) below alike ∙ length-take-le k r has.are.within in
    let front : take k (below ++ behind) ≡ below = take_at below behind k long in
    record {
      within = omega (arith, length-append below behind, long);
      marked = subst (AllByRecursion (λ (e : Element). IsTrue e.cbit)) (sym front) (alike_marked (take k r) below alike has.are.marked);
      bytes = omega (arith, has.bytes, alike_bytes (take k r) below alike, ap (bytes_of row_of) front);
    }

more_behind : (m : Element) (r more : List Element) (k : ℕ) → AreMembers row_of m r k → AreMembers row_of m (r ++ more) k
more_behind m r more k members =
    let front : take k (r ++ more) ≡ take k r = take-append-le k r more members.within in
    record {
      within = let w = members.within in omega (arith, length-append r more);
      marked = subst (AllByRecursion (λ (e : Element). IsTrue e.cbit)) (sym front) members.marked;
      bytes = ap (λ (z : List Element). size_of m + bytes_of row_of z) front ∙ members.bytes;
    }

have_none : (es : List Element) → HaveMembers es es
have_none [] = tt
have_none (e ∷ es) = ((λ changed. absurd (both_ways (has_changed e e) (unchanged (total_of e.body) e.cbit) changed)), have_none es)

have_join : (es ms es' ms' : List Element) → HaveMembers es ms → HaveMembers es' ms' → HaveMembers (es ++ es') (ms ++ ms')
have_join [] [] es' ms' one two = two
have_join (e ∷ es) (m ∷ ms) es' ms' one two =
    ((λ changed. let has = one.0 changed in (has.0, more_behind m ms ms' has.0 has.1)), have_join es ms es' ms' one.1 two)
have_join [] (m ∷ ms) es' ms' one two = absurd one
have_join (e ∷ es) [] es' ms' one two = absurd one

within_have : (n dim : ℕ) (top : Bool) (w l : List Element) → AllByRecursion (IsWellFormed dim) l → HaveMembers l (mended_within n dim top w l)
unfolding mended_within
within_have zero dim top w l good = have_none l
within_have (suc n) dim top w [] good = tt
within_have (suc n) dim top w (h ∷ r) good =
    let t : Taken = taken dim top (still_waiting top h w) h r in
    let split : take t.below r ++ drop t.below r ≡ r = take-append-drop t.below r in
    let both : AllByRecursion (IsWellFormed dim) (take t.below r ++ drop t.below r) = subst (AllByRecursion (IsWellFormed dim)) (sym split) good.1 in
    let first = each_first (IsWellFormed dim) (take t.below r) (drop t.below r) both in
    let last = each_last (IsWellFormed dim) (take t.below r) (drop t.below r) both in
    let below : List Element = cond t.goes (mended_within n dim false [] (take t.below r)) (take t.below r) in
    let behind : List Element = mended_within n dim top t.waiting (drop t.below r) in
    let alike : AreAlike (take t.below r) below =
    cond_both t.goes (mended_within n dim false [] (take t.below r)) (take t.below r) (λ ms. AreAlike (take t.below r) ms)
    (λ _. below_alike n dim [] (take t.below r) first) (λ _. all_alike (take t.below r)) in
    let one : HaveMembers (take t.below r) below =
    cond_both t.goes (mended_within n dim false [] (take t.below r)) (take t.below r) (λ ms. HaveMembers (take t.below r) ms)
    (λ _. within_have n dim false [] (take t.below r) first) (λ _. have_none (take t.below r)) in (
      (λ changed. (t.below, members_over t.head r below behind t.below (taken_has dim top (still_waiting top h w) h r good.0 changed).1 alike)),
      subst (λ (x : List Element). HaveMembers x (below ++ behind)) split
          (have_join (take t.below r) below (drop t.below r) behind one (within_have n dim top t.waiting (drop t.below r) last)),
    )

mend_have : (dim : ℕ) (es : List Element) → AllByRecursion (IsWellFormed dim) es → HaveMembers es (mend dim es)
mend_have dim [] good = tt
mend_have dim (e ∷ es) good =
    ((λ changed. absurd (both_ways (has_changed e e) (unchanged (total_of e.body) e.cbit) changed)), within_have (length es) dim true [] es good.1)

pub have_members : ChangedHeadersHaveMembers
have_members f dim es t opens = mend_have dim es opens.each
