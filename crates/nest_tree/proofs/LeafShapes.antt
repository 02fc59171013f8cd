-- An element of a type that heads nothing is a leaf in any list.
use Rattle.std.proofs.Common.{◌≡◌, ℕ, List, [], ◌∷◌, refl, ap, ◌∙◌, true, false, inl, inr}
use Rattle.std.specs.Prelude.{◌||◌, ◌==◌}
use Rattle.std.proofs.lemmas.Bool.{or_cases, and_parts, eqb-true, both_ways}
use Rattle.dgn_layout.specs.declared.types.Class.{Class}
use Rattle.dgn_layout.specs.Classes.{class_of, is_among}
use Rattle.dgn_drawing.specs.declared.row.Row.{Row}
use Rattle.dgn_drawing.specs.Nesting.{Scope, leaf, shape, itself, is_counted, is_all, is_spline_part, has_bit, member_count, front_count}
use Rattle.dgn_drawing.specs.Nesting.{is_header}
use Rattle.nest_tree.proofs.NestingSteps.{shape_cases}

counted_header : (c : Class) → is_counted c ≡ true → is_header c ≡ true
counted_header Class.Vertices is = absurd (let e = is in cc)
counted_header Class.Words is = absurd (let e = is in cc)
counted_header Class.Counted is = refl
counted_header Class.Run is = absurd (let e = is in cc)
counted_header Class.Floating is = absurd (let e = is in cc)
counted_header Class.Boxed is = absurd (let e = is in cc)
counted_header Class.Silent is = absurd (let e = is in cc)

-- what heads nothing counts nothing
pub not_counted : (c : Class) → is_header c ≡ false → is_counted c ≡ false
not_counted Class.Vertices none = refl
not_counted Class.Words none = refl
not_counted Class.Counted none = none
not_counted Class.Run none = refl
not_counted Class.Floating none = refl
not_counted Class.Boxed none = refl
not_counted Class.Silent none = refl

header_among : (kind : ℕ) (k : ℕ) → (kind == k) ≡ true → is_header (class_of k) ≡ true → is_header (class_of kind) ≡ true
header_among kind k is header = ap (λ (n : ℕ). is_header (class_of n)) (eqb-true kind k is) ∙ header

spline_header : (kind : ℕ) → is_among kind (24 ∷ 27 ∷ []) ≡ true → is_header (class_of kind) ≡ true
spline_header kind spline = elim (or_cases (kind == 24) ((kind == 27) || false) spline) [
  | inl a ↦ header_among kind 24 a refl
  | inr b ↦ elim (or_cases (kind == 27) false b) [
    | inl a ↦ header_among kind 27 a refl
    | inr never ↦ absurd (both_ways false refl never)
  ]
]

pub leaf_shape : (scope : Scope) (h : Row) (r : List Row) → is_header (class_of h.kind) ≡ false → shape itself scope h r ≡ leaf
leaf_shape scope h r none =
    shape_cases (λ s. s ≡ leaf) scope h (member_count itself h r) (front_count (λ e. is_spline_part (itself e)) r) (front_count (λ e. has_bit (itself e)) r)
    refl
    (λ counted. absurd (both_ways (is_header (class_of h.kind)) none (counted_header (class_of h.kind) counted)))
    (λ _ spline. absurd (both_ways (is_header (class_of h.kind)) none (spline_header h.kind spline)))
    (λ _ shared. absurd (both_ways (is_header (class_of h.kind)) none (header_among h.kind 34 (and_parts (h.kind == 34) (is_all scope) shared).0 refl)))
