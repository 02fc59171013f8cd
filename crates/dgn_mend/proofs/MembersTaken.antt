-- The elements that mending takes with a first one have bit C; and a header that is put right is followed by the members that
-- its new total asks for.
use Rattle.std.proofs.Common.{◌≡◌, ℕ, zero, suc, ◌+◌, ◌-◌, ◌*◌, ◌<◌, ◌≤◌, ◌==◌, Bool, true, false, cond, List, [], ◌∷◌, ◌++◌, length, take, drop, refl, sym, ap, ◌∙◌, subst, arith, inl, inr}
use Rattle.std.proofs.Common.{Option, Some, None}
use Rattle.std.specs.Prelude.{◌&&◌, IsTrue, option_map, nat_le, nat_lt}
use Rattle.std.specs.List.{AllByRecursion}
use Rattle.std.proofs.lemmas.Bool.{cond_both, both_ways, and_parts, cases_Bool, cond-true, cond-false, leb-true}
use Rattle.dgn_layout.specs.Classes.{class_of, is_among}
use Rattle.dgn_layout.specs.declared.TheConstants.{SHARED_CELL}
use Rattle.dgn_drawing.specs.Element.{Element}
use Rattle.dgn_drawing.specs.Spelling.{size_of}
use Rattle.dgn_drawing.specs.declared.row.Row.{Row}
use Rattle.dgn_drawing.specs.Nesting.{is_counted, member_count, filling, front_count, is_spline_part, has_bit, bytes_of}
use Rattle.dgn_drawing.specs.Rows.{row_of, total_of}
use Rattle.nest_tree.proofs.NestingSteps.{front_within}
use Rattle.nest_tree.proofs.MemberCounts.{filling_fills}
use Rattle.dgn_mend.specs.Mending.{own_words, fits, or_else, with_total, found, lost_from, overflowing, Taken, passed, counted_taken, taken}

-- the first k elements have bit C
pub record AreMarked (k : ℕ) (r : List Element) : Type 0 where
  pub within : k ≤ length r
  pub marked : AllByRecursion (λ (e : Element). IsTrue e.cbit) (take k r)

-- and they and a header have the bytes that a total asks for
pub record HasMembers (h : Element) (t : ℕ) (r : List Element) (k : ℕ) : Type 0 where
  pub are : AreMarked k r
  pub bytes : size_of h + bytes_of row_of (take k r) ≡ 38 + 2 * t

pub fits_members : (h : Element) (t : ℕ) (r : List Element) (k : ℕ) → fits h t r ≡ Some k → HasMembers h t r k
fits_members h t r k is =
    elim (cases_Bool (nat_le (size_of h) (38 + 2 * t))) [
      | inl holds ↦
          let small = leb-true (size_of h) (38 + 2 * t) holds in
          let fills = filling_fills row_of (38 + 2 * t - size_of h) r k
          (sym (cond-true (nat_le (size_of h) (38 + 2 * t)) (filling row_of (38 + 2 * t - size_of h) r) None holds) ∙ is) in
          let sum = fills.bytes_are in
          record { are = record { within = fills.within; marked = fills.marked }; bytes = omega arith }
      | inr fails ↦ absurd (let e : None ≡ Some k =
          sym (cond-false (nat_le (size_of h) (38 + 2 * t)) (filling row_of (38 + 2 * t - size_of h) r) None fails) ∙ is in cc)
    ]

-- one of two answers is the one that there is
or_is : {A : Type 0} (P : A → Type 0) (a b : Option A) (m : A) → ((x : A) → a ≡ Some x → P x) → ((x : A) → b ≡ Some x → P x) → or_else a b ≡ Some m → P m
or_is P None b m one two is = two m is
or_is P (Some x) b m one two is = one m is

total_is : (h : Element) (t : ℕ) (r : List Element) (o : Option ℕ) (m : ℕ × ℕ) → fits h t r ≡ o → with_total t o ≡ Some m → HasMembers h m.0 r m.1
total_is h t r None m fitting is = absurd (let f : None ≡ Some m = is in cc)
total_is h t r (Some k) m fitting is =
    let same : (t, k) ≡ m = cc in
    subst (λ (x : ℕ × ℕ). HasMembers h x.0 r x.1) same (fits_members h t r k fitting)

pub found_members : (h : Element) (r : List Element) (m : ℕ × ℕ) → found h r ≡ Some m → HasMembers h m.0 r m.1
found_members h r m is =
    let t : ℕ = total_of h.body in
    let sum : ℕ = total_of h.body + own_words h in
    let fitting : Option (ℕ × ℕ) = with_total sum (fits h sum r) in
    let guard : Bool = nat_lt 0 (own_words h) && nat_lt sum 65536 in
    or_is (λ (x : ℕ × ℕ). HasMembers h x.0 r x.1) (with_total t (fits h t r)) (cond guard fitting None) m
    (λ x one. total_is h t r (fits h t r) x refl one)
    (λ x. cond_both guard fitting None (λ o. o ≡ Some x → HasMembers h x.0 r x.1) (λ _ two. total_is h sum r (fits h sum r) x refl two)
    (λ _ two. absurd (let e : None ≡ Some x = two in cc)))
    is

lost_marked : (count : ℕ) (h : Element) (r : List Element) (j k : ℕ) → lost_from count h r j ≡ Some k → AreMarked k r
lost_marked zero h r j k is = absurd (let e : None ≡ Some k = is in cc)
lost_marked (suc count) h r j k is =
    or_is (λ (x : ℕ). AreMarked x r) (fits h (65536 * j + total_of h.body) r)
    (or_else (fits h (65536 * j + total_of h.body + own_words h) r) (lost_from count h r (suc j))) k
    (λ x one. (fits_members h (65536 * j + total_of h.body) r x one).are)
    (λ x. or_is (λ (y : ℕ). AreMarked y r) (fits h (65536 * j + total_of h.body + own_words h) r) (lost_from count h r (suc j)) x
    (λ y one. (fits_members h (65536 * j + total_of h.body + own_words h) r y one).are) (λ y two. lost_marked count h r (suc j) y two))
    is

none_marked : (r : List Element) → AreMarked 0 r
none_marked r = record { within = omega arith; marked = tt }

front_all : (test : Element → Bool) → ((e : Element) → test e ≡ true → e.cbit ≡ true) → (l : List Element)
    → AllByRecursion (λ (e : Element). IsTrue e.cbit) (take (front_count test l) l)
front_all test has [] = tt
front_all test has (e ∷ l) =
    cond_both (test e) (suc (front_count test l)) 0 (λ (k : ℕ). AllByRecursion (λ (x : Element). IsTrue x.cbit) (take k (e ∷ l)))
    (λ is. (has e is, front_all test has l)) (λ _. tt)

front_marked : (test : Element → Bool) → ((e : Element) → test e ≡ true → e.cbit ≡ true) → (l : List Element) → AreMarked (front_count test l) l
front_marked test has l = record { within = front_within test l; marked = front_all test has l }

counted_marked : (dim : ℕ) (top : Bool) (w : List Element) (h : Element) (r : List Element) (o : Option (ℕ × ℕ)) (lost : Option ℕ)
    → found h r ≡ o → overflowing h r ≡ lost → AreMarked (counted_taken dim top w h o lost).below r
counted_marked dim top w h r (Some m) lost one two = (found_members h r m one).are
counted_marked dim top w h r None (Some k) one two = lost_marked (bytes_of row_of (h ∷ r)) h r 1 k two
counted_marked dim top w h r None None one two = none_marked r

-- what is taken with a first element has bit C
pub taken_marked : (dim : ℕ) (top : Bool) (w : List Element) (h : Element) (r : List Element) → AreMarked (taken dim top w h r).below r
taken_marked dim top w h r =
    let splines : ℕ = front_count (λ e. is_spline_part (row_of e)) r in
    let parts : ℕ = front_count (λ e. has_bit (row_of e)) r in
    let last : Taken = cond ((h.kind == SHARED_CELL) && top) (passed h parts true w) (passed h 0 false w) in
    let run : Taken = cond (is_among h.kind (24 ∷ 27 ∷ [])) (passed h splines false w) last in
    cond_both (is_counted (class_of h.kind)) (counted_taken dim top w h (found h r) (overflowing h r)) run (λ t. AreMarked t.below r)
    (λ _. counted_marked dim top w h r (found h r) (overflowing h r) refl refl)
    (λ _. cond_both (is_among h.kind (24 ∷ 27 ∷ [])) (passed h splines false w) last (λ t. AreMarked t.below r)
    (λ _. front_marked (λ e. is_spline_part (row_of e)) (λ e is. (and_parts e.cbit (is_among e.kind (21 ∷ 25 ∷ 26 ∷ 28 ∷ [])) is).0) r)
    (λ _. cond_both ((h.kind == SHARED_CELL) && top) (passed h parts true w) (passed h 0 false w) (λ t. AreMarked t.below r)
    (λ _. front_marked (λ e. has_bit (row_of e)) (λ e is. is) r) (λ _. none_marked r)))
