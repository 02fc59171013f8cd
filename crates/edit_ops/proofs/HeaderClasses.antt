-- A header above an element is a counted one or one of a run, so more is read of it than nothing.
use Rattle.std.proofs.Common.{◌≡◌, ℕ, zero, suc, ◌+◌, ◌-◌, ◌<◌, ◌≤◌, ◌==◌, List, [], ◌∷◌, length, take, drop, refl, sym, ap, subst, arith, Bool, None, true}
use Rattle.std.proofs.Common.{false, inl, inr}
use Rattle.std.specs.Prelude.{nat_lt, ◌||◌}
use Rattle.std.specs.List.{AllByRecursion}
use Rattle.std.proofs.lemmas.List.{length-take, length-drop}
use Rattle.std.proofs.lemmas.Bool.{cond_both, ltb-true, or_cases, eqb-true, and_parts, both_ways}
use Rattle.dgn_layout.specs.declared.types.Class.{Class}
use Rattle.dgn_layout.specs.Classes.{class_of, is_silent, is_among}
use Rattle.dgn_drawing.specs.Element.{Element}
use Rattle.dgn_drawing.specs.Spelling.{size_of, spelling}
use Rattle.dgn_drawing.specs.Rows.{row_of}
use Rattle.dgn_drawing.specs.Nesting.{Scope, Whole, Members, is_all, is_counted, front_count, member_count, is_spline_part, has_bit, Shape, shape, Forest}
use Rattle.dgn_drawing.specs.Nesting.{NoTree, Tree, flat, nest, forest}
use Rattle.dgn_drawing.specs.Numbering.{end_of}
use Rattle.nest_tree.proofs.NestingSteps.{shape_cases, nest_cons, nest_nil, flat-nest}
use Rattle.edit_ops.specs.Trees.{count_in, Live, above_from, above_tree}
use Rattle.edit_ops.specs.Causes.{unwidened}
use Rattle.dgn_layout.specs.Spots.{has_spots}

-- the classes of a header
abbrev pub is_head : Class → Bool
is_head Class.Counted = true
is_head Class.Run = true
is_head other = false

-- each head that has elements below it is of one of them
abbrev Headed : Forest Element → Type 0
Headed NoTree = Unit {0}
Headed (Tree knot h below behind) = (0 < length (flat below) → is_head (class_of h.kind) ≡ true) × (Headed below × Headed behind)

-- a counted class is
counted_read : (c : Class) → is_counted c ≡ true → is_head c ≡ true
counted_read Class.Counted counted = refl
counted_read Class.Vertices counted = absurd (both_ways false refl counted)
counted_read Class.Words counted = absurd (both_ways false refl counted)
counted_read Class.Run counted = absurd (both_ways false refl counted)
counted_read Class.Floating counted = absurd (both_ways false refl counted)
counted_read Class.Boxed counted = absurd (both_ways false refl counted)
counted_read Class.Silent counted = absurd (both_ways false refl counted)

-- and that of a B-spline
spline_read : (kind : ℕ) → is_among kind (24 ∷ 27 ∷ []) ≡ true → is_head (class_of kind) ≡ true
spline_read kind spline =
    elim (or_cases (kind == 24) ((kind == 27) || false) spline) [
      | inl a ↦ ap (λ (k : ℕ). is_head (class_of k)) (eqb-true kind 24 a)
      | inr b ↦ elim (or_cases (kind == 27) false b) [
        | inl a ↦ ap (λ (k : ℕ). is_head (class_of k)) (eqb-true kind 27 a)
        | inr never ↦ absurd (both_ways false refl never)
      ]
    ]

-- what stands below a head of this shape
abbrev below_as : List Element → Shape → Forest Element
below_as r s = nest row_of s.inside (take s.count r)

-- a head below which elements stand is a header
head_read : (scope : Scope) (h : Element) (r : List Element) → 0 < length (flat (below_as r (shape row_of scope h r))) → is_head (class_of h.kind) ≡ true
head_read scope h r =
    shape_cases (λ s. 0 < length (flat (below_as r s)) → is_head (class_of h.kind) ≡ true) scope (row_of h) (member_count row_of (row_of h) r)
    (front_count (λ e. is_spline_part (row_of e)) r) (front_count (λ e. has_bit (row_of e)) r)
    (λ some. absurd (omega (arith, ap (length {A = Element}) (flat-nest row_of Members []))))
    (λ counted _. counted_read (class_of h.kind) counted)
    (λ _ spline _. spline_read h.kind spline)
    (λ _ shared _. ap (λ (k : ℕ). is_head (class_of k)) (eqb-true h.kind 34 (and_parts (h.kind == 34) (is_all scope) shared).0))

-- so it is of each head of the trees of a list
nest_headed : (n : ℕ) (scope : Scope) (l : List Element) → length l ≤ n → Headed (nest row_of scope l)
nest_headed n scope [] short = subst Headed (sym (nest_nil row_of scope)) tt
nest_headed zero scope (h ∷ r) short = absurd (omega arith)
nest_headed (suc n) scope (h ∷ r) short =
    let k : ℕ = (shape row_of scope h r).count in
    subst Headed (sym (nest_cons row_of scope h r)) (
      head_read scope h r,
      (
        nest_headed n (shape row_of scope h r).inside (take k r) (omega (arith, length-take k r)),
        nest_headed n scope (drop k r) (omega (arith, length-drop k r)),
      ),
    )

-- and of a drawing
forest_headed : (es : List Element) → Headed (forest row_of es)
forest_headed [] = tt
forest_headed (e ∷ es) = ((λ some. absurd (omega arith)), (tt, nest_headed (length es) Whole es (omega arith)))

-- the headers above an element have elements below them
above_read : (n first p : ℕ) (f : Forest Element) → Headed f → AllByRecursion (λ v. is_head (class_of v.element.kind) ≡ true) (above_from n first p f)
above_read n first p NoTree headed = tt
above_read zero first p (Tree knot h below behind) headed = tt
above_read (suc n) first p (Tree knot h below behind) headed =
    cond_both (nat_lt n (count_in below)) _ _ (λ (vs : List Live). AllByRecursion (λ v. is_head (class_of v.element.kind) ≡ true) vs)
    (λ within.
    let early : n < length (flat below) = ltb-true n (length (flat below)) within in
    (headed.0 (omega arith), above_read n (first + 1) (p + size_of h) below headed.1.0))
    (λ _. above_read (n - count_in below) (end_of first below) (p + (size_of h + length (spelling (flat below)))) behind headed.1.1)

-- each header above an element is of a class of headers
pub headers_head : (es : List Element) (n : ℕ) → AllByRecursion (λ v. is_head (class_of v.element.kind) ≡ true) (above_tree es n)
headers_head es n = above_read n 0 0 (forest row_of es) (forest_headed es)

-- so more is read of it than nothing
head_loud : (c : Class) → is_head c ≡ true → is_silent c ≡ false
head_loud Class.Counted head = refl
head_loud Class.Run head = refl
head_loud Class.Vertices head = refl
head_loud Class.Words head = refl
head_loud Class.Floating head = refl
head_loud Class.Boxed head = refl
head_loud Class.Silent head = absurd (both_ways false refl head)

all_loud : (vs : List Live) → AllByRecursion (λ v. is_head (class_of v.element.kind) ≡ true) vs
    → AllByRecursion (λ v. is_silent (class_of v.element.kind) ≡ false) vs
all_loud [] heads = tt
all_loud (v ∷ vs) heads = (head_loud (class_of v.element.kind) heads.0, all_loud vs heads.1)

pub headers_read : (es : List Element) (n : ℕ) → AllByRecursion (λ v. is_silent (class_of v.element.kind) ≡ false) (above_tree es n)
headers_read es n = all_loud (above_tree es n) (headers_head es n)

-- and one whose range can be made wider has spots
head_spotted : (c : Class) (m : ℕ) → is_head c ≡ true → unwidened m c ≡ None → has_spots c ≡ true
head_spotted Class.Counted m head wide = refl
head_spotted Class.Run m head wide = absurd (let x = wide in cc)
head_spotted Class.Vertices m head wide = refl
head_spotted Class.Words m head wide = refl
head_spotted Class.Floating m head wide = absurd (both_ways false refl head)
head_spotted Class.Boxed m head wide = absurd (both_ways false refl head)
head_spotted Class.Silent m head wide = absurd (both_ways false refl head)

pub all_spotted : (vs : List Live) → AllByRecursion (λ v. is_head (class_of v.element.kind) ≡ true) vs
    → AllByRecursion (λ v. unwidened v.number (class_of v.element.kind) ≡ None) vs
    → AllByRecursion (λ v. has_spots (class_of v.element.kind) ≡ true) vs
all_spotted [] heads wide = tt
all_spotted (v ∷ vs) heads wide = (head_spotted (class_of v.element.kind) v.number heads.0 wide.0, all_spotted vs heads.1 wide.1)
