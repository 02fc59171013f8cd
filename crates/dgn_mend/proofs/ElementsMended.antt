-- Each element that mending goes through, and what becomes of it.
use Rattle.std.proofs.Common.{◌≡◌, ℕ, zero, suc, ◌+◌, ◌*◌, ◌/◌, ◌<◌, ◌≤◌, ◌==◌, Bool, true, false, cond, List, [], ◌∷◌, ◌++◌, length, take, drop, map, refl, sym, ap, ◌∙◌, subst, arith}
use Rattle.std.proofs.Common.{Option, Some, None, inl, inr}
use Rattle.std.specs.Prelude.{◌&&◌, ◌||◌, nat_lt, IfSome, option_map, not}
use Rattle.std.specs.List.{AllByRecursion}
use Rattle.std.proofs.lemmas.List.{take-append-drop, append-nil}
use Rattle.std.proofs.lemmas.Bool.{cond_both, both_ways, and_parts, cond-true, cond-false, cases_Bool}
use Rattle.std.proofs.lemmas.Bool.Decides.{nat_tests}
use Rattle.patch_bytes.specs.Puts.{Put}
use Rattle.dgn_layout.specs.Classes.{class_of, is_among}
use Rattle.dgn_layout.specs.declared.TheConstants.{SHARED_CELL}
use Rattle.dgn_drawing.specs.Element.{Element}
use Rattle.dgn_drawing.specs.Spelling.{spell, spelling, size_of}
use Rattle.dgn_drawing.specs.WellFormed.{IsWellFormed}
use Rattle.dgn_drawing.specs.Nesting.{is_counted, front_count, is_spline_part, has_bit}
use Rattle.dgn_drawing.specs.Rows.{row_of, total_of}
use Rattle.edit_ops.specs.Causes.{is_locked}
use Rattle.edit_ops.proofs.EachLive.{each_first, each_last}
use Rattle.edit_ops.proofs.TextTurns.{Turns, turns_none, turns_then}
use Rattle.dgn_mend.specs.Mending.{body_totalled, put_right, own_words, fits, or_else, with_total, found, overflowing, Taken, passed, frees, still_waiting, counted_taken}
use Rattle.dgn_mend.specs.Mending.{taken, mended_within, mend, has_changed, header_puts, puts_from}
use Rattle.dgn_mend.specs.Laws.{IsMendedFrom, AreMendedFrom}
use Rattle.dgn_mend.proofs.HeadersPut.{header_put, total_small}

-- an element and what mending makes of it, with the puts that turn it
pub record IsTurned (dim : ℕ) (e m : Element) : Type 0 where
  pub from : IsMendedFrom dim e m
  pub turned : (p : ℕ) → Turns p (spell e) (cond (has_changed e m) (header_puts p m) []) (spell m)

abbrev pub AreTurned : ℕ → List Element → List Element → Type 0
AreTurned dim [] [] = Unit {0}
AreTurned dim (e ∷ es) (m ∷ ms) = IsTurned dim e m × AreTurned dim es ms
AreTurned dim es ms = ⊥

-- a total and bit C are as they are
pub unchanged : (a : ℕ) (c : Bool) → (not (a == a) || (c && not c)) ≡ false
unchanged a true = grind (arith, nat_tests)
unchanged a false = grind (arith, nat_tests)

-- an element that stays
stays_turned : (dim : ℕ) (e : Element) → IsWellFormed dim e → IsTurned dim e e
stays_turned dim e good = record {
  from = record { good = good; size = refl; kind = refl; locked = λ _. refl; other = λ _. refl; same = λ _. refl };
  turned = λ p. subst (λ (ps : List Put). Turns p (spell e) ps (spell e))
      (sym (cond-false (has_changed e e) (header_puts p e) [] (unchanged (total_of e.body) e.cbit))) (turns_none p (spell e));
}

-- a header put right
right_turned : (dim : ℕ) (e : Element) (free : Bool) (t : ℕ) → t < 65536 → is_counted (class_of e.kind) ≡ true → is_locked e.body ≡ false
    → IsWellFormed dim e → IsTurned dim e (record e { cbit = e.cbit && not free; body = body_totalled t e.body })
right_turned dim e free t small counted open_ good =
    let m : Element = record e { cbit = e.cbit && not free; body = body_totalled t e.body } in
    let put = header_put dim e free t small counted good in
    record {
      from = record {
        good = put.good;
        size = put.size;
        kind = refl;
        locked = λ is. absurd (both_ways (is_locked e.body) open_ is);
        other = λ is. absurd (both_ways (is_counted (class_of e.kind)) is counted);
        same = put.same;
      };
      turned = λ p. cond_both (has_changed e m) (header_puts p m) [] (λ ps. Turns p (spell e) ps (spell m)) (λ _. put.turned p)
          (λ is. subst (λ (x : Element). Turns p (spell e) [] (spell x)) (sym (put.same is)) (turns_none p (spell e)));
    }

put_right_turned : (dim : ℕ) (e : Element) (free : Bool) (t : ℕ) → t < 65536 → is_counted (class_of e.kind) ≡ true → IsWellFormed dim e
    → IsTurned dim e (put_right free t e)
put_right_turned dim e free t small counted good =
    cond_both (is_locked e.body) e (record e { cbit = e.cbit && not free; body = body_totalled t e.body }) (λ m. IsTurned dim e m)
    (λ _. stays_turned dim e good) (λ is. right_turned dim e free t small counted is good)

-- a total that is found is one word
with_small : (t : ℕ) (o : Option ℕ) → t < 65536 → IfSome (with_total t o) (λ (m : ℕ × ℕ). m.0 < 65536)
with_small t None small = tt
with_small t (Some k) small = small

or_small : (a b : Option (ℕ × ℕ)) → IfSome a (λ (m : ℕ × ℕ). m.0 < 65536) → IfSome b (λ (m : ℕ × ℕ). m.0 < 65536)
    → IfSome (or_else a b) (λ (m : ℕ × ℕ). m.0 < 65536)
or_small None b one two = two
or_small (Some m) b one two = one

below_limit : (n : ℕ) → nat_lt n 65536 ≡ true → n < 65536
below_limit n is = grind (arith, nat_tests)

pub found_small : (h : Element) (r : List Element) → total_of h.body < 65536 → IfSome (found h r) (λ (m : ℕ × ℕ). m.0 < 65536)
found_small h r small =
    let sum : ℕ = total_of h.body + own_words h in
    let fitting : Option (ℕ × ℕ) = with_total sum (fits h sum r) in
    or_small (with_total (total_of h.body) (fits h (total_of h.body) r)) (cond (nat_lt 0 (own_words h) && nat_lt sum 65536) fitting None)
    (with_small (total_of h.body) (fits h (total_of h.body) r) small)
    (cond_both (nat_lt 0 (own_words h) && nat_lt sum 65536) fitting None (λ o. IfSome o (λ (m : ℕ × ℕ). m.0 < 65536))
    (λ is. with_small sum (fits h sum r) (below_limit sum (and_parts (nat_lt 0 (own_words h)) (nat_lt sum 65536) is).1)) (λ _. tt))

-- the first element
counted_head : (dim : ℕ) (top : Bool) (w : List Element) (h : Element) (o : Option (ℕ × ℕ)) (lost : Option ℕ)
    → IfSome o (λ (m : ℕ × ℕ). m.0 < 65536) → is_counted (class_of h.kind) ≡ true → IsWellFormed dim h
    → IsTurned dim h (counted_taken dim top w h o lost).head
counted_head dim top w h (Some m) lost small counted good = put_right_turned dim h (frees dim top w h) m.0 small counted good
counted_head dim top w h None (Some k) small counted good = stays_turned dim h good
counted_head dim top w h None None small counted good = stays_turned dim h good

pub head_turned : (dim : ℕ) (top : Bool) (w : List Element) (h : Element) (r : List Element) → IsWellFormed dim h → IsTurned dim h (taken dim top w h r).head
head_turned dim top w h r good =
    let splines : ℕ = front_count (λ e. is_spline_part (row_of e)) r in
    let parts : ℕ = front_count (λ e. has_bit (row_of e)) r in
    let last : Taken = cond ((h.kind == SHARED_CELL) && top) (passed h parts true w) (passed h 0 false w) in
    let run : Taken = cond (is_among h.kind (24 ∷ 27 ∷ [])) (passed h splines false w) last in
    cond_both (is_counted (class_of h.kind)) (counted_taken dim top w h (found h r) (overflowing h r)) run (λ t. IsTurned dim h t.head)
    (λ counted. counted_head dim top w h (found h r) (overflowing h r) (found_small h r (total_small dim h counted good)) counted good)
    (λ _. cond_both (is_among h.kind (24 ∷ 27 ∷ [])) (passed h splines false w) last (λ t. IsTurned dim h t.head) (λ _. stays_turned dim h good)
    (λ _. cond_both ((h.kind == SHARED_CELL) && top) (passed h parts true w) (passed h 0 false w) (λ t. IsTurned dim h t.head)
    (λ _. stays_turned dim h good) (λ _. stays_turned dim h good)))

-- lists
all_stay : (dim : ℕ) (es : List Element) → AllByRecursion (IsWellFormed dim) es → AreTurned dim es es
all_stay dim [] good = tt
all_stay dim (e ∷ es) good = (stays_turned dim e good.0, all_stay dim es good.1)

turned_join : (dim : ℕ) (es ms es' ms' : List Element) → AreTurned dim es ms → AreTurned dim es' ms' → AreTurned dim (es ++ es') (ms ++ ms')
turned_join dim [] [] es' ms' one two = two
turned_join dim (e ∷ es) (m ∷ ms) es' ms' one two = (one.0, turned_join dim es ms es' ms' one.1 two)
turned_join dim [] (m ∷ ms) es' ms' one two = absurd one
turned_join dim (e ∷ es) [] es' ms' one two = absurd one

pub within_turned : (n dim : ℕ) (top : Bool) (w l : List Element) → AllByRecursion (IsWellFormed dim) l → AreTurned dim l (mended_within n dim top w l)
unfolding mended_within
within_turned zero dim top w l good = all_stay dim l good
within_turned (suc n) dim top w [] good = tt
within_turned (suc n) dim top w (h ∷ r) good =
    let t : Taken = taken dim top (still_waiting top h w) h r in
    let split : take t.below r ++ drop t.below r ≡ r = take-append-drop t.below r in
    let both : AllByRecursion (IsWellFormed dim) (take t.below r ++ drop t.below r) = subst (AllByRecursion (IsWellFormed dim)) (sym split) good.1 in
    let first = each_first (IsWellFormed dim) (take t.below r) (drop t.below r) both in
    let last = each_last (IsWellFormed dim) (take t.below r) (drop t.below r) both in
    let below : AreTurned dim (take t.below r) (cond t.goes (mended_within n dim false [] (take t.below r)) (take t.below r)) =
    cond_both t.goes (mended_within n dim false [] (take t.below r)) (take t.below r) (λ ms. AreTurned dim (take t.below r) ms)
    (λ _. within_turned n dim false [] (take t.below r) first) (λ _. all_stay dim (take t.below r) first) in (
      head_turned dim top (still_waiting top h w) h r good.0,
      subst (λ (x : List Element). AreTurned dim x (cond t.goes (mended_within n dim false [] (take t.below r)) (take t.below r)
          ++ mended_within n dim top t.waiting (drop t.below r))) split
          (turned_join dim (take t.below r) (cond t.goes (mended_within n dim false [] (take t.below r)) (take t.below r)) (drop t.below r)
          (mended_within n dim top t.waiting (drop t.below r)) below (within_turned n dim top t.waiting (drop t.below r) last)),
    )

pub mend_turned : (dim : ℕ) (es : List Element) → AllByRecursion (IsWellFormed dim) es → AreTurned dim es (mend dim es)
mend_turned dim [] good = tt
mend_turned dim (e ∷ es) good = (stays_turned dim e good.0, within_turned (length es) dim true [] es good.1)
