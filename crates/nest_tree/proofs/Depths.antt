-- No element lies deep: each header over others has its bytes, and a group's bytes are bounded by its total.
use Rattle.std.proofs.Common.{◌≡◌, ℕ, zero, suc, ◌+◌, ◌-◌, ◌*◌, ◌≤◌, List, [], ◌∷◌, ◌++◌, length, take, drop, refl, sym, ◌∙◌, subst, arith, true, false}
use Rattle.std.proofs.Common.{cond, inl, inr}
use Rattle.std.specs.Prelude.{Option, Some, None, ◌==◌, ◌||◌, nat_le}
use Rattle.std.specs.List.{AllByRecursion}
use Rattle.std.proofs.lemmas.List.{length-take, length-drop}
use Rattle.std.proofs.lemmas.Bool.{cond-true, cond-false, cases_Bool, or_cases, eqb-true, leb-true, and_parts, both_ways}
use Rattle.dgn_layout.specs.declared.types.Class.{Class}
use Rattle.dgn_layout.specs.Classes.{class_of, is_among}
use Rattle.dgn_drawing.specs.declared.row.Row.{Row}
use Rattle.dgn_drawing.specs.Nesting.{Scope, Whole, Members, Parts, is_all, is_counted, bytes_of, whole_of, member_count, front_count, is_spline_part}
use Rattle.dgn_drawing.specs.Nesting.{has_bit, group_or_loose, shape, Forest, Tree, nest, forest, itself}
use Rattle.dgn_drawing.specs.Numbering.{Mark, end_of, marks, marks_of}
use Rattle.nest_tree.specs.Depths.{least_size, IsSized, IsWordTotal, headers}
use Rattle.nest_tree.proofs.NestingSteps.{shape_cases, nest_cons, nest_nil}
use Rattle.nest_tree.proofs.MemberCounts.{filling_fills}
use Rattle.nest_tree.proofs.MemberBytes.{all_take, all_drop}

all_join : {A : Type 0} (P : A → Type 0) (xs ys : List A) → AllByRecursion P xs → AllByRecursion P ys → AllByRecursion P (xs ++ ys)
all_join P [] ys front back = back
all_join P (x ∷ xs) ys front back = (front.0, all_join P xs ys front.1 back)

pub all_weaker : {A : Type 0} (P Q : A → Type 0) (xs : List A) → ((x : A) → P x → Q x) → AllByRecursion P xs → AllByRecursion Q xs
all_weaker P Q [] weaker each = tt
all_weaker P Q (x ∷ xs) weaker each = (weaker x each.0, all_weaker P Q xs weaker each.1)

abbrev pub bytes : List Row → ℕ
bytes l = bytes_of itself l

bytes_split : (k : ℕ) (l : List Row) → bytes (take k l) + bytes (drop k l) ≡ bytes l
bytes_split zero l = omega arith
bytes_split (suc k) [] = refl
bytes_split (suc k) (r ∷ l) = omega (arith, bytes_split k l)

-- sizes
counted_size : (c : Class) (n : ℕ) → is_counted c ≡ true → least_size c ≤ n → 40 ≤ n
counted_size Class.Counted n counted large = large
counted_size Class.Vertices n counted large = absurd (both_ways false refl counted)
counted_size Class.Words n counted large = absurd (both_ways false refl counted)
counted_size Class.Run n counted large = absurd (both_ways false refl counted)
counted_size Class.Floating n counted large = absurd (both_ways false refl counted)
counted_size Class.Boxed n counted large = absurd (both_ways false refl counted)
counted_size Class.Silent n counted large = absurd (both_ways false refl counted)

any_size : (c : Class) (n : ℕ) → least_size c ≤ n → 4 ≤ n
any_size Class.Counted n large = omega arith
any_size Class.Vertices n large = omega arith
any_size Class.Words n large = omega arith
any_size Class.Run n large = omega arith
any_size Class.Floating n large = omega arith
any_size Class.Boxed n large = omega arith
any_size Class.Silent n large = large

spline_size : (h : Row) → IsSized h → is_among h.kind (24 ∷ 27 ∷ []) ≡ true → 36 ≤ h.size
spline_size h sized spline =
    elim (or_cases (h.kind == 24) ((h.kind == 27) || false) spline) [
      | inl a ↦ let e = eqb-true h.kind 24 a in subst (λ (k : ℕ). least_size (class_of k) ≤ h.size) e sized
      | inr b ↦ elim (or_cases (h.kind == 27) false b) [
        | inl a ↦ let e = eqb-true h.kind 27 a in subst (λ (k : ℕ). least_size (class_of k) ≤ h.size) e sized
        | inr never ↦ absurd (both_ways false refl never)
      ]
    ]

-- a group has no more bytes than its total says
pub group_bytes : (h : Row) (r : List Row) (k : ℕ) → member_count itself h r ≡ Some k → h.size + bytes (take k r) ≡ whole_of h
group_bytes h r k is =
    elim (cases_Bool (nat_le h.size (whole_of h))) [
      | inl small ↦
          let fills = filling_fills itself (whole_of h - h.size) r k (sym (cond-true (nat_le h.size (whole_of h)) _ _ small) ∙ is) in
          let sum = fills.bytes_are in
          let fits = leb-true h.size (whole_of h) small in
          omega arith
      | inr large ↦ absurd (let e : None ≡ Some k = sym (cond-false (nat_le h.size (whole_of h)) _ _ large) ∙ is in cc)
    ]

group_left : (h : Row) (r : List Row) (k : ℕ) → IsSized h → IsWordTotal h → is_counted (class_of h.kind) ≡ true → member_count itself h r ≡ Some k
    → bytes (take k r) ≤ 131068
group_left h r k sized word counted is =
    let large = counted_size (class_of h.kind) h.size counted sized in
    let sum = group_bytes h r k is in
    omega arith

pub short_front : (k m : ℕ) (r : List Row) → length r ≤ m → length (take k r) ≤ m
short_front k m r short = omega (arith, length-take k r)

pub short_rest : (k m : ℕ) (r : List Row) → length r ≤ m → length (drop k r) ≤ m
short_rest k m r short = omega (arith, length-drop k r)

-- what holds of the marks of a head, of those below it and of those behind it, holds of all
abbrev pub Each : (Mark → Type 0) → Forest Row → ℕ → ℕ → Option ℕ → Type 0
Each P t n d p = AllByRecursion P (marks t n d p)

pub each_cons : (P : Mark → Type 0) (scope : Scope) (h : Row) (r : List Row) (n d : ℕ) (p : Option ℕ)
    → ((m : Mark) → m.depth ≡ d → P m)
    → Each P (nest itself (shape itself scope h r).inside (take (shape itself scope h r).count r)) (n + 1) (d + 1) (Some n)
    → ((k : ℕ) → Each P (nest itself scope (drop (shape itself scope h r).count r)) k d p)
    → Each P (nest itself scope (h ∷ r)) n d p
each_cons P scope h r n d p own below behind =
    let t = nest itself (shape itself scope h r).inside (take (shape itself scope h r).count r) in
    let rest = nest itself scope (drop (shape itself scope h r).count r) in
    let mark : Mark = record { knot = (shape itself scope h r).knot; depth = d; parent = p; end = end_of n t } in
    let all : Each P (Tree (shape itself scope h r).knot h t rest) n d p =
    (own mark refl, all_join P (marks t (n + 1) (d + 1) (Some n)) (marks rest (end_of n t) d p) below (behind (end_of n t))) in
    subst (λ (x : Forest Row). Each P x n d p) (sym (nest_cons itself scope h r)) all

pub each_nil : (P : Mark → Type 0) (scope : Scope) (n d : ℕ) (p : Option ℕ) → Each P (nest itself scope []) n d p
each_nil P scope n d p = subst (λ (x : Forest Row). Each P x n d p) (sym (nest_nil itself scope)) tt

-- parts of a B-spline lie in their list
pub parts_flat : (m : ℕ) (l : List Row) (n d : ℕ) (p : Option ℕ) → length l ≤ m → Each (λ x. x.depth ≤ d) (nest itself Parts l) n d p
parts_flat m [] n d p short = each_nil (λ x. x.depth ≤ d) Parts n d p
parts_flat zero (h ∷ r) n d p short = absurd (omega arith)
parts_flat (suc m) (h ∷ r) n d p short =
    each_cons (λ x. x.depth ≤ d) Parts h r n d p (λ x is. omega arith) (each_nil (λ x. x.depth ≤ d) Members (n + 1) (d + 1) (Some n))
    (λ k. parts_flat m r k d p (omega arith))

some_bytes : (l : List Row) (n d b : ℕ) (p : Option ℕ) → AllByRecursion IsSized l → 36 ≤ b
    → Each (λ x. 40 * x.depth ≤ 40 * d + (b + bytes l)) (nest itself Parts l) n (d + 1) p
some_bytes [] n d b p sized large = each_nil (λ x. 40 * x.depth ≤ 40 * d + (b + bytes [])) Parts n (d + 1) p
some_bytes (h ∷ r) n d b p sized large =
    let four = any_size (class_of h.kind) h.size sized.0 in
    all_weaker (λ x. x.depth ≤ d + 1) (λ x. 40 * x.depth ≤ 40 * d + (b + bytes (h ∷ r))) (marks (nest itself Parts (h ∷ r)) n (d + 1) p) (λ x low. omega arith)
    (parts_flat (length (h ∷ r)) (h ∷ r) n (d + 1) p (omega arith))

-- what lies below the head of a list of members, if each front of what is behind it has that bound
module _ (h : Row) (r : List Row) (n d : ℕ) (sized : IsSized h) (sizes : AllByRecursion IsSized r)
    (fronts : (k : ℕ) → Each (λ x. 40 * x.depth ≤ 40 * (d + 1) + bytes (take k r)) (nest itself Members (take k r)) (n + 1) (d + 1) (Some n)) where
  abbrev Shallow : Mark → Type 0
  Shallow x = 40 * x.depth ≤ 40 * d + bytes (h ∷ r)

  grouped : 40 ≤ h.size → (o : Option ℕ) → Each Shallow (nest itself (group_or_loose o).inside (take (group_or_loose o).count r)) (n + 1) (d + 1) (Some n)
  grouped large None = each_nil Shallow Members (n + 1) (d + 1) (Some n)
  grouped large (Some k) =
      let split = bytes_split k r in
      all_weaker (λ x. 40 * x.depth ≤ 40 * (d + 1) + bytes (take k r)) Shallow (marks (nest itself Members (take k r)) (n + 1) (d + 1) (Some n))
      (λ x low. omega arith) (fronts k)

  splined : 36 ≤ h.size → (k : ℕ) → Each Shallow (nest itself Parts (take k r)) (n + 1) (d + 1) (Some n)
  splined large k =
      let split = bytes_split k r in
      all_weaker (λ x. 40 * x.depth ≤ 40 * d + (h.size + bytes (take k r))) Shallow (marks (nest itself Parts (take k r)) (n + 1) (d + 1) (Some n))
      (λ x low. omega arith)
      (some_bytes (take k r) (n + 1) d h.size (Some n) (all_take IsSized k r sizes) large)

  below_shallow : Each Shallow (nest itself (shape itself Members h r).inside (take (shape itself Members h r).count r)) (n + 1) (d + 1) (Some n)
  below_shallow =
      shape_cases (λ s. Each Shallow (nest itself s.inside (take s.count r)) (n + 1) (d + 1) (Some n)) Members h (member_count itself h r)
      (front_count is_spline_part r) (front_count has_bit r)
      (each_nil Shallow Members (n + 1) (d + 1) (Some n))
      (λ counted. grouped (counted_size (class_of h.kind) h.size counted sized) (member_count itself h r))
      (λ _ spline. splined (spline_size h sized spline) (front_count is_spline_part r))
      (λ _ shared. absurd (both_ways (is_all Members) refl ((and_parts (h.kind == 34) (is_all Members) shared).1)))

-- in a list of members no element lies more than a fortieth of the list's bytes below it
members_deep : (m : ℕ) (l : List Row) (n d : ℕ) (p : Option ℕ) → length l ≤ m → AllByRecursion IsSized l
    → Each (λ x. 40 * x.depth ≤ 40 * d + bytes l) (nest itself Members l) n d p
members_deep m [] n d p short sized = each_nil (λ x. 40 * x.depth ≤ 40 * d + bytes []) Members n d p
members_deep zero (h ∷ r) n d p short sized = absurd (omega arith)
members_deep (suc m) (h ∷ r) n d p short sized =
    each_cons (λ x. 40 * x.depth ≤ 40 * d + bytes (h ∷ r)) Members h r n d p (λ x is. omega arith)
    (below_shallow h r n d sized.0 sized.1
    (λ k. members_deep m (take k r) (n + 1) (d + 1) (Some n) (short_front k m r (omega arith)) (all_take IsSized k r sized.1)))
    (λ k. let c = (shape itself Members h r).count in let split = bytes_split c r in
    all_weaker (λ x. 40 * x.depth ≤ 40 * d + bytes (drop c r)) (λ x. 40 * x.depth ≤ 40 * d + bytes (h ∷ r)) (marks (nest itself Members (drop c r)) k d p)
    (λ x low. omega arith)
    (members_deep m (drop c r) k d p (short_rest c m r (omega arith)) (all_drop IsSized c r sized.1)))

-- below the head of any list: a group's members are bounded by its total
module _ (h : Row) (r : List Row) (n d : ℕ) (sized : IsSized h) (word : IsWordTotal h) (sizes : AllByRecursion IsSized r) where
  grouped_low : is_counted (class_of h.kind) ≡ true → (o : Option ℕ) → o ≡ member_count itself h r
      → Each (λ x. x.depth ≤ d + 3277) (nest itself (group_or_loose o).inside (take (group_or_loose o).count r)) (n + 1) (d + 1) (Some n)
  grouped_low counted None is = each_nil (λ x. x.depth ≤ d + 3277) Members (n + 1) (d + 1) (Some n)
  grouped_low counted (Some k) is =
      let left = group_left h r k sized word counted (sym is) in
      all_weaker (λ x. 40 * x.depth ≤ 40 * (d + 1) + bytes (take k r)) (λ x. x.depth ≤ d + 3277)
      (marks (nest itself Members (take k r)) (n + 1) (d + 1) (Some n)) (λ x low. omega arith)
      (members_deep (length (take k r)) (take k r) (n + 1) (d + 1) (Some n) (omega arith) (all_take IsSized k r sizes))

  splined_low : (k : ℕ) → Each (λ x. x.depth ≤ d + 3277) (nest itself Parts (take k r)) (n + 1) (d + 1) (Some n)
  splined_low k =
      all_weaker (λ x. x.depth ≤ d + 1) (λ x. x.depth ≤ d + 3277) (marks (nest itself Parts (take k r)) (n + 1) (d + 1) (Some n)) (λ x low. omega arith)
      (parts_flat (length (take k r)) (take k r) (n + 1) (d + 1) (Some n) (omega arith))

-- in a list of members no element lies more than 3277 below it
members_low : (m : ℕ) (l : List Row) (n d : ℕ) (p : Option ℕ) → length l ≤ m → AllByRecursion IsSized l → AllByRecursion IsWordTotal l
    → Each (λ x. x.depth ≤ d + 3277) (nest itself Members l) n d p
members_low m [] n d p short sized words = each_nil (λ x. x.depth ≤ d + 3277) Members n d p
members_low zero (h ∷ r) n d p short sized words = absurd (omega arith)
members_low (suc m) (h ∷ r) n d p short sized words =
    each_cons (λ x. x.depth ≤ d + 3277) Members h r n d p (λ x is. omega arith)
    (shape_cases (λ s. Each (λ x. x.depth ≤ d + 3277) (nest itself s.inside (take s.count r)) (n + 1) (d + 1) (Some n)) Members h (member_count itself h r)
    (front_count is_spline_part r) (front_count has_bit r)
    (each_nil (λ x. x.depth ≤ d + 3277) Members (n + 1) (d + 1) (Some n))
    (λ counted. grouped_low h r n d sized.0 words.0 sized.1 counted (member_count itself h r) refl)
    (λ _ _. splined_low h r n d sized.0 words.0 sized.1 (front_count is_spline_part r))
    (λ _ shared. absurd (both_ways (is_all Members) refl ((and_parts (h.kind == 34) (is_all Members) shared).1))))
    (λ k. let c = (shape itself Members h r).count in
    members_low m (drop c r) k d p (short_rest c m r (omega arith)) (all_drop IsSized c r sized.1) (all_drop IsWordTotal c r words.1))

-- in the list of all elements none lies more than 3278 below it
all_low : (m : ℕ) (l : List Row) (n d : ℕ) (p : Option ℕ) → length l ≤ m → AllByRecursion IsSized l → AllByRecursion IsWordTotal l
    → Each (λ x. x.depth ≤ d + 3278) (nest itself Whole l) n d p
all_low m [] n d p short sized words = each_nil (λ x. x.depth ≤ d + 3278) Whole n d p
all_low zero (h ∷ r) n d p short sized words = absurd (omega arith)
all_low (suc m) (h ∷ r) n d p short sized words =
    each_cons (λ x. x.depth ≤ d + 3278) Whole h r n d p (λ x is. omega arith)
    (shape_cases (λ s. Each (λ x. x.depth ≤ d + 3278) (nest itself s.inside (take s.count r)) (n + 1) (d + 1) (Some n)) Whole h (member_count itself h r)
    (front_count is_spline_part r) (front_count has_bit r)
    (each_nil (λ x. x.depth ≤ d + 3278) Members (n + 1) (d + 1) (Some n))
    (λ counted. let o = member_count itself h r in
    all_weaker (λ x. x.depth ≤ d + 3277) (λ x. x.depth ≤ d + 3278)
    (marks (nest itself (group_or_loose o).inside (take (group_or_loose o).count r)) (n + 1) (d + 1) (Some n)) (λ x low. omega arith)
    (grouped_low h r n d sized.0 words.0 sized.1 counted (member_count itself h r) refl))
    (λ _ _. let k = front_count is_spline_part r in
    all_weaker (λ x. x.depth ≤ d + 3277) (λ x. x.depth ≤ d + 3278) (marks (nest itself Parts (take k r)) (n + 1) (d + 1) (Some n)) (λ x low. omega arith)
    (splined_low h r n d sized.0 words.0 sized.1 k))
    (λ _ _. let k = front_count has_bit r in
    all_weaker (λ x. x.depth ≤ d + 1 + 3277) (λ x. x.depth ≤ d + 3278) (marks (nest itself Members (take k r)) (n + 1) (d + 1) (Some n)) (λ x low. omega arith)
    (members_low (length (take k r)) (take k r) (n + 1) (d + 1) (Some n) (omega arith) (all_take IsSized k r sized.1) (all_take IsWordTotal k r words.1))))
    (λ k. let c = (shape itself Whole h r).count in
    all_low m (drop c r) k d p (short_rest c m r (omega arith)) (all_drop IsSized c r sized.1) (all_drop IsWordTotal c r words.1))

pub depths_low : (rows : List Row) → AllByRecursion IsSized rows → AllByRecursion IsWordTotal rows
    → AllByRecursion (λ (x : Mark). x.depth ≤ 3278) (marks_of (forest itself rows))
depths_low [] sized words = tt
depths_low (e ∷ rows) sized words = (
  omega arith,
  all_weaker (λ x. x.depth ≤ 0 + 3278) (λ x. x.depth ≤ 3278) (marks (nest itself Whole rows) 1 0 None) (λ x low. omega arith)
      (all_low (length rows) rows 1 0 None (omega arith) sized.1 words.1),
)

-- how many counted headers lie in each other, by the bytes of their list, and in any list
abbrev here_of : Row → ℕ → ℕ
here_of h above = cond (is_counted (class_of h.kind)) (above + 1) above

here_bytes : (h : Row) (above : ℕ) → IsSized h → 40 * here_of h above ≤ 40 * above + h.size
here_bytes h above sized =
    elim (cases_Bool (is_counted (class_of h.kind))) [
      | inl counted ↦
          let one = cond-true (is_counted (class_of h.kind)) (above + 1) above counted in
          let large = counted_size (class_of h.kind) h.size counted sized in
          omega arith
      | inr plain ↦ let none = cond-false (is_counted (class_of h.kind)) (above + 1) above plain in omega arith
    ]

here_one : (h : Row) (above : ℕ) → here_of h above ≤ above + 1
here_one h above =
    elim (cases_Bool (is_counted (class_of h.kind))) [
      | inl counted ↦ let one = cond-true (is_counted (class_of h.kind)) (above + 1) above counted in omega arith
      | inr plain ↦ let none = cond-false (is_counted (class_of h.kind)) (above + 1) above plain in omega arith
    ]

headers_cons : (P : ℕ → Type 0) (scope : Scope) (h : Row) (r : List Row) (above : ℕ)
    → P (here_of h above)
    → AllByRecursion P (headers (nest itself (shape itself scope h r).inside (take (shape itself scope h r).count r)) (here_of h above))
    → AllByRecursion P (headers (nest itself scope (drop (shape itself scope h r).count r)) above)
    → AllByRecursion P (headers (nest itself scope (h ∷ r)) above)
headers_cons P scope h r above own below behind =
    let t = nest itself (shape itself scope h r).inside (take (shape itself scope h r).count r) in
    let rest = nest itself scope (drop (shape itself scope h r).count r) in
    let all : AllByRecursion P (headers (Tree (shape itself scope h r).knot h t rest) above) =
    (own, all_join P (headers t (here_of h above)) (headers rest above) below behind) in
    subst (λ (x : Forest Row). AllByRecursion P (headers x above)) (sym (nest_cons itself scope h r)) all

headers_nil : (P : ℕ → Type 0) (scope : Scope) (above : ℕ) → AllByRecursion P (headers (nest itself scope []) above)
headers_nil P scope above = subst (λ (x : Forest Row). AllByRecursion P (headers x above)) (sym (nest_nil itself scope)) tt

headers_deep : (m : ℕ) (scope : Scope) (l : List Row) (above : ℕ) → length l ≤ m → AllByRecursion IsSized l
    → AllByRecursion (λ x. 40 * x ≤ 40 * above + bytes l) (headers (nest itself scope l) above)
headers_deep m scope [] above short sized = headers_nil (λ x. 40 * x ≤ 40 * above + bytes []) scope above
headers_deep zero scope (h ∷ r) above short sized = absurd (omega arith)
headers_deep (suc m) scope (h ∷ r) above short sized =
    let c = (shape itself scope h r).count in
    let split = bytes_split (shape itself scope h r).count r in
    let own = here_bytes h above sized.0 in
    let t = nest itself (shape itself scope h r).inside (take (shape itself scope h r).count r) in
    let rest = nest itself scope (drop (shape itself scope h r).count r) in
    headers_cons (λ x. 40 * x ≤ 40 * above + bytes (h ∷ r)) scope h r above (omega arith)
    (all_weaker (λ x. 40 * x ≤ 40 * here_of h above + bytes (take (shape itself scope h r).count r)) (λ x. 40 * x ≤ 40 * above + bytes (h ∷ r))
    (headers t (here_of h above)) (λ x low. omega arith)
    (headers_deep m (shape itself scope h r).inside (take c r) (here_of h above) (short_front c m r (omega arith)) (all_take IsSized c r sized.1)))
    (all_weaker (λ x. 40 * x ≤ 40 * above + bytes (drop (shape itself scope h r).count r)) (λ x. 40 * x ≤ 40 * above + bytes (h ∷ r)) (headers rest above)
    (λ x low. omega arith)
    (headers_deep m scope (drop c r) above (short_rest c m r (omega arith)) (all_drop IsSized c r sized.1)))

module _ (h : Row) (r : List Row) (above : ℕ) (sized : IsSized h) (word : IsWordTotal h) (sizes : AllByRecursion IsSized r) where
  grouped_headers : is_counted (class_of h.kind) ≡ true → (o : Option ℕ) → o ≡ member_count itself h r
      → AllByRecursion (λ x. x ≤ above + 3277) (headers (nest itself (group_or_loose o).inside (take (group_or_loose o).count r)) (here_of h above))
  grouped_headers counted None is = headers_nil (λ x. x ≤ above + 3277) Members (here_of h above)
  grouped_headers counted (Some k) is =
      let left = group_left h r k sized word counted (sym is) in
      let one = here_one h above in
      all_weaker (λ x. 40 * x ≤ 40 * here_of h above + bytes (take k r)) (λ x. x ≤ above + 3277)
      (headers (nest itself Members (take k r)) (here_of h above)) (λ x low. omega arith)
      (headers_deep (length (take k r)) Members (take k r) (here_of h above) (omega arith) (all_take IsSized k r sizes))

headers_low : (m : ℕ) (scope : Scope) (l : List Row) (above : ℕ) → length l ≤ m → AllByRecursion IsSized l → AllByRecursion IsWordTotal l
    → AllByRecursion (λ x. x ≤ above + 3277) (headers (nest itself scope l) above)
headers_low m scope [] above short sized words = headers_nil (λ x. x ≤ above + 3277) scope above
headers_low zero scope (h ∷ r) above short sized words = absurd (omega arith)
headers_low (suc m) scope (h ∷ r) above short sized words =
    let own = here_one h above in
    headers_cons (λ x. x ≤ above + 3277) scope h r above (omega arith)
    (shape_cases (λ s. AllByRecursion (λ x. x ≤ above + 3277) (headers (nest itself s.inside (take s.count r)) (here_of h above))) scope h
    (member_count itself h r) (front_count is_spline_part r) (front_count has_bit r)
    (headers_nil (λ x. x ≤ above + 3277) Members (here_of h above))
    (λ counted. grouped_headers h r above sized.0 words.0 sized.1 counted (member_count itself h r) refl)
    (λ plain _. let k = front_count is_spline_part r in
    subst (λ (c : ℕ). AllByRecursion (λ x. x ≤ above + 3277) (headers (nest itself Parts (take k r)) c))
    (sym (cond-false (is_counted (class_of h.kind)) (above + 1) above plain))
    (headers_low m Parts (take k r) above (short_front k m r (omega arith)) (all_take IsSized k r sized.1) (all_take IsWordTotal k r words.1)))
    (λ plain _. let k = front_count has_bit r in
    subst (λ (c : ℕ). AllByRecursion (λ x. x ≤ above + 3277) (headers (nest itself Members (take k r)) c))
    (sym (cond-false (is_counted (class_of h.kind)) (above + 1) above plain))
    (headers_low m Members (take k r) above (short_front k m r (omega arith)) (all_take IsSized k r sized.1) (all_take IsWordTotal k r words.1))))
    (let c = (shape itself scope h r).count in
    headers_low m scope (drop c r) above (short_rest c m r (omega arith)) (all_drop IsSized c r sized.1) (all_drop IsWordTotal c r words.1))

pub headers_few : (rows : List Row) → AllByRecursion IsSized rows → AllByRecursion IsWordTotal rows
    → AllByRecursion (λ x. x ≤ 3277) (headers (forest itself rows) 0)
headers_few [] sized words = tt
headers_few (e ∷ rows) sized words =
    let one = here_one e 0 in (
      omega arith,
      all_weaker (λ x. x ≤ 0 + 3277) (λ x. x ≤ 3277) (headers (nest itself Whole rows) 0) (λ x low. omega arith)
          (headers_low (length rows) Whole rows 0 (omega arith) sized.1 words.1),
    )
