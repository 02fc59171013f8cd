-- The nesting of a list is that of its first element and those behind it, whatever number of steps it is
-- given; it has the list's elements, in their order.
use Rattle.std.proofs.Common.{◌≡◌, ℕ, zero, suc, ◌-◌, ◌≤◌, List, [], ◌∷◌, ◌++◌, length, take, drop, refl, ap, ◌∙◌, arith, true, false, Bool}
use Rattle.std.specs.Prelude.{Option, Some, None, option_map, ◌==◌, ◌&&◌, nat_le}
use Rattle.std.proofs.lemmas.List.{take-append-drop, length-take, length-drop}
use Rattle.std.proofs.lemmas.Bool.{cond_both}
use Rattle.dgn_layout.specs.Classes.{class_of, is_among}
use Rattle.dgn_drawing.specs.declared.row.Row.{Row}
use Rattle.dgn_drawing.specs.Nesting.{Scope, Whole, Members, Parts, is_all, is_parts, is_counted, whole_of, filling, member_count, front_count}
use Rattle.dgn_drawing.specs.Nesting.{is_spline_part, has_bit, Shape, leaf, run_over, group_or_loose, shape_of, shape, NoTree, Tree, nest_within, nest}
use Rattle.dgn_drawing.specs.Nesting.{forest, flat}

-- what holds of each shape that a first element can have holds of its shape
pub shape_cases : (P : Shape → Type 0) (scope : Scope) (h : Row) (members : Option ℕ) (spline_parts parts : ℕ)
    → P leaf
    → (is_counted (class_of h.kind) ≡ true → P (group_or_loose members))
    → (is_counted (class_of h.kind) ≡ false → is_among h.kind (24 ∷ 27 ∷ []) ≡ true → P (run_over Parts spline_parts))
    → (is_counted (class_of h.kind) ≡ false → (h.kind == 34 && is_all scope) ≡ true → P (run_over Members parts))
    → P (shape_of scope h members spline_parts parts)
shape_cases P scope h members spline_parts parts at_leaf counted spline shared =
    cond_both (is_parts scope) _ _ P (λ _. at_leaf) (λ _.
    cond_both (is_counted (class_of h.kind)) _ _ P counted (λ plain.
    cond_both (is_among h.kind (24 ∷ 27 ∷ [])) _ _ P (spline plain) (λ _.
    cond_both (h.kind == 34 && is_all scope) _ _ P (shared plain) (λ _. at_leaf))))

pub front_within : {A : Type 0} (test : A → Bool) (l : List A) → front_count test l ≤ length l
front_within test [] = omega arith
front_within test (e ∷ l) =
    cond_both (test e) (suc (front_count test l)) 0 (λ (k : ℕ). k ≤ suc (length l)) (λ _. omega (arith, front_within test l)) (λ _. omega arith)

-- a number in an Option is at most n
abbrev pub AtMost : ℕ → Option ℕ → Type 0
AtMost n None = Unit {0}
AtMost n (Some k) = k ≤ n

more_within : (n : ℕ) (o : Option ℕ) → AtMost n o → AtMost (suc n) (option_map suc o)
more_within n None within = tt
more_within n (Some k) within = omega arith

pub filling_within : {A : Type 0} (row : A → Row) (bytes : ℕ) (l : List A) → AtMost (length l) (filling row bytes l)
filling_within row bytes [] = cond_both (bytes == 0) (Some 0) None (AtMost 0) (λ _. omega arith) (λ _. tt)
filling_within row bytes (e ∷ l) =
    cond_both (bytes == 0) _ _ (AtMost (suc (length l))) (λ _. omega arith) (λ _.
    cond_both ((row e).cbit && nat_le (row e).size bytes) _ _ (AtMost (suc (length l)))
    (λ _. more_within (length l) _ (filling_within row (bytes - (row e).size) l)) (λ _. tt))

pub members_within : {A : Type 0} (row : A → Row) (h : Row) (l : List A) → AtMost (length l) (member_count row h l)
members_within row h l = cond_both (nat_le h.size (whole_of h)) _ _ (AtMost (length l)) (λ _. filling_within row _ l) (λ _. tt)

group_within : (n : ℕ) (o : Option ℕ) → AtMost n o → (group_or_loose o).count ≤ n
group_within n None within = omega arith
group_within n (Some k) within = within

-- no more elements stand below a head than are behind it
pub count_within : {A : Type 0} (row : A → Row) (scope : Scope) (h : A) (r : List A) → (shape row scope h r).count ≤ length r
count_within row scope h r =
    shape_cases (λ s. s.count ≤ length r) scope (row h) (member_count row (row h) r) (front_count (λ e. is_spline_part (row e)) r)
    (front_count (λ e. has_bit (row e)) r)
    (omega arith)
    (λ _. group_within (length r) (member_count row (row h) r) (members_within row (row h) r))
    (λ _ _. front_within (λ e. is_spline_part (row e)) r)
    (λ _ _. front_within (λ e. has_bit (row e)) r)

length_front : {A : Type 0} (k n : ℕ) (r : List A) → length r ≤ n → length (take k r) ≤ n
length_front k n r short = omega (arith, length-take k r)

length_rest : {A : Type 0} (k n : ℕ) (r : List A) → length r ≤ n → length (drop k r) ≤ n
length_rest k n r short = omega (arith, length-drop k r)

-- any two numbers of steps that are enough give the same trees
pub steps_free : {A : Type 0} (row : A → Row) (n m : ℕ) (scope : Scope) (l : List A) → length l ≤ n → length l ≤ m
    → nest_within row n scope l ≡ nest_within row m scope l
unfolding nest_within
steps_free row zero zero scope l short brief = refl
steps_free row zero (suc m) scope [] short brief = refl
steps_free row zero (suc m) scope (h ∷ r) short brief = absurd (omega arith)
steps_free row (suc n) zero scope [] short brief = refl
steps_free row (suc n) zero scope (h ∷ r) short brief = absurd (omega arith)
steps_free row (suc n) (suc m) scope [] short brief = refl
steps_free row (suc n) (suc m) scope (h ∷ r) short brief =
    let k = (shape row scope h r).count in
    let below = steps_free row n m (shape row scope h r).inside (take k r) (length_front k n r (omega arith)) (length_front k m r (omega arith)) in
    let behind = steps_free row n m scope (drop k r) (length_rest k n r (omega arith)) (length_rest k m r (omega arith)) in
    cc

-- the nesting of a list: its first element is the head of a tree over the elements that its shape counts,
-- and the others nest behind it
pub nest_cons : {A : Type 0} (row : A → Row) (scope : Scope) (h : A) (r : List A)
    → nest row scope (h ∷ r) ≡ Tree (shape row scope h r).knot h
    (nest row (shape row scope h r).inside (take (shape row scope h r).count r))
    (nest row scope (drop (shape row scope h r).count r))
unfolding nest_within
nest_cons row scope h r =
    let k = (shape row scope h r).count in
    let below = steps_free row (length r) (length (take k r)) (shape row scope h r).inside (take k r) (length_front k (length r) r (omega arith))
    (omega arith) in
    let behind = steps_free row (length r) (length (drop k r)) scope (drop k r) (length_rest k (length r) r (omega arith)) (omega arith) in
    cc

pub nest_nil : {A : Type 0} (row : A → Row) (scope : Scope) → nest row scope [] ≡ NoTree
unfolding nest_within
nest_nil row scope = refl

-- the trees of a list have its elements, in their order
flat_within : {A : Type 0} (row : A → Row) (n : ℕ) (scope : Scope) (l : List A) → length l ≤ n → flat (nest_within row n scope l) ≡ l
unfolding nest_within
flat_within row zero scope [] short = refl
flat_within row zero scope (h ∷ r) short = absurd (omega arith)
flat_within row (suc n) scope [] short = refl
flat_within {A} row (suc n) scope (h ∷ r) short =
    let k = (shape row scope h r).count in
    let below = flat_within row n (shape row scope h r).inside (take k r) (length_front k n r (omega arith)) in
    let behind = flat_within row n scope (drop k r) (length_rest k n r (omega arith)) in
    let halves = take-append-drop k r in
    ap (λ (x : List A). h ∷ x) (ap (λ (x : List A). x ++ flat (nest_within row n scope (drop k r))) below ∙ ap (λ (x : List A). take k r ++ x) behind ∙ halves)

pub flat-nest : {A : Type 0} (row : A → Row) (scope : Scope) (l : List A) → flat (nest row scope l) ≡ l
flat-nest row scope l = flat_within row (length l) scope l (omega arith)

pub flat-forest : {A : Type 0} (row : A → Row) (es : List A) → flat (forest row es) ≡ es
flat-forest row [] = refl
flat-forest {A} row (e ∷ es) = ap (λ (x : List A). e ∷ x) (flat-nest row Whole es)
