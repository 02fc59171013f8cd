-- The numbers of the headers above an element and of the live elements of its part rise.
use Rattle.std.proofs.Common.{◌≡◌, ℕ, zero, suc, ◌+◌, ◌-◌, ◌≤◌, List, [], ◌∷◌, ◌++◌, length, sym, subst, arith, length-append, inl, inr}
use Rattle.std.specs.Prelude.{Option, Some, None, option_map, nat_lt, slice_get}
use Rattle.std.specs.Option.{option_to_list}
use Rattle.std.proofs.lemmas.Bool.{cases_Bool, cond-true, cond-false, ltb-false}
use Rattle.dgn_drawing.specs.Element.{Element}
use Rattle.dgn_drawing.specs.Spelling.{spelling, size_of}
use Rattle.dgn_drawing.specs.Rows.{row_of}
use Rattle.dgn_drawing.specs.Nesting.{Forest, NoTree, Tree, flat, forest}
use Rattle.dgn_drawing.specs.Numbering.{end_of}
use Rattle.elem_index.specs.Offsets.{offset_of}
use Rattle.edit_ops.specs.Trees.{Live, count_in, tree_at, live_from, live_tree, above_from, above_tree, path_to}
use Rattle.edit_ops.specs.Laws.{NumbersRise, LiveNumbersRise, PathNumbersRise}
use Rattle.edit_ops.proofs.EachLive.{live_first, live_behind, live_dead, live_alive}

-- numbers of elements rise from one on, and are below another
abbrev RiseTo : ℕ → List Live → ℕ → Type 0
RiseTo low [] high = low ≤ high
RiseTo low (v ∷ vs) high = (low ≤ v.number) × RiseTo (v.number + 1) vs high

-- so they rise from a smaller one on
lower : (less low : ℕ) (vs : List Live) (high : ℕ) → less ≤ low → RiseTo low vs high → RiseTo less vs high
lower less low [] high below rise = omega arith
lower less low (v ∷ vs) high below rise = let first = rise.0 in (omega arith, rise.1)

-- numbers behind those that rise to where they begin
rise_both : (low : ℕ) (vs : List Live) (between : ℕ) (others : List Live) (high : ℕ) → RiseTo low vs between → RiseTo between others high
    → RiseTo low (vs ++ others) high
rise_both low [] between others high first second = lower low between others high first second
rise_both low (v ∷ vs) between others high first second = (first.0, rise_both (v.number + 1) vs between others high first.1 second)

-- numbers that rise to some number rise
rises : (low : ℕ) (vs : List Live) (high : ℕ) → RiseTo low vs high → NumbersRise low vs
rises low [] high rise = tt
rises low (v ∷ vs) high rise = (rise.0, rises (v.number + 1) vs high rise.1)

-- the live elements of trees have numbers from that of the first element to the end
live_rise : (n p : ℕ) (f : Forest Element) → RiseTo n (live_from n p f) (n + length (flat f))
live_rise n p NoTree = omega arith
live_rise n p (Tree knot e below behind) =
    let inner = live_rise (n + 1) (p + size_of e) below in
    let outer = live_rise (end_of n below) (p + (size_of e + length (spelling (flat below)))) behind in
    let end : end_of n below + length (flat behind) ≡ n + length (flat (Tree knot e below behind)) = omega (arith, length-append (flat below) (flat behind)) in
    let last = subst (RiseTo (end_of n below) (live_behind n p e below behind)) end outer in
    elim (cases_Bool e.deleted) [
      | inl dead ↦
          subst (λ (vs : List Live). RiseTo n vs (n + length (flat (Tree knot e below behind)))) (sym (live_dead n p knot e below behind dead))
          (lower n (end_of n below) (live_behind n p e below behind) (n + length (flat (Tree knot e below behind))) (omega arith) last)
      | inr alive ↦
          subst (λ (vs : List Live). RiseTo n vs (n + length (flat (Tree knot e below behind)))) (sym (live_alive n p knot e below behind alive))
          (rise_both n (live_first n p e below) (end_of n below) (live_behind n p e below behind) (n + length (flat (Tree knot e below behind)))
          (omega arith, inner) last)
    ]

-- the headers above an element of trees have numbers from that of the first element to its own
above_rise : (f : Forest Element) (n first p : ℕ) → RiseTo first (above_from n first p f) (first + n)
above_rise NoTree n first p = omega arith
above_rise (Tree knot e below behind) zero first p = omega arith
above_rise (Tree knot e below behind) (suc n) first p =
    let here : Live = record { number = first; place = p; element = e } in
    let inner = above_rise below n (first + 1) (p + size_of e) in
    let outer = above_rise behind (n - count_in below) (end_of first below) (p + (size_of e + length (spelling (flat below)))) in
    elim (cases_Bool (nat_lt n (count_in below))) [
      | inl within ↦
          let end : first + 1 + n ≡ first + suc n = omega arith in
          let rest = subst (RiseTo (first + 1) (above_from n (first + 1) (p + size_of e) below)) end inner in
          subst (λ (vs : List Live). RiseTo first vs (first + suc n))
          (sym (cond-true (nat_lt n (count_in below)) (here ∷ above_from n (first + 1) (p + size_of e) below)
          (above_from (n - count_in below) (end_of first below) (p + (size_of e + length (spelling (flat below)))) behind) within))
          (omega arith, rest)
      | inr beyond ↦
          let late : count_in below ≤ n = ltb-false n (count_in below) beyond in
          let end : end_of first below + (n - count_in below) ≡ first + suc n = omega arith in
          let rest = subst (RiseTo (end_of first below)
          (above_from (n - count_in below) (end_of first below) (p + (size_of e + length (spelling (flat below)))) behind)) end outer in
          subst (λ (vs : List Live). RiseTo first vs (first + suc n))
          (sym (cond-false (nat_lt n (count_in below)) (here ∷ above_from n (first + 1) (p + size_of e) below)
          (above_from (n - count_in below) (end_of first below) (p + (size_of e + length (spelling (flat below)))) behind) beyond))
          (lower first (end_of first below) (above_from (n - count_in below) (end_of first below) (p + (size_of e + length (spelling (flat below)))) behind)
          (first + suc n) (omega arith) rest)
    ]

-- an element, where there is one, has its own number
one_rise : (n p : ℕ) (o : Option Element)
    → RiseTo (0 + n) (option_to_list (option_map (λ (e : Element). record { number = n; place = p; element = e }) o)) (n + 1)
one_rise n p None = omega arith
one_rise n p (Some e) = (omega arith, omega arith)

-- the headers above an element and the live elements of its part have rising numbers
pub live_numbers_rise : LiveNumbersRise
live_numbers_rise es n known =
    let here : n ≡ 0 + n = omega arith in
    let live = live_rise n (offset_of es n) (tree_at n (forest row_of es)) in
    rises 0 (above_tree es n ++ live_tree es n) (n + length (flat (tree_at n (forest row_of es))))
    (rise_both 0 (above_tree es n) (0 + n) (live_tree es n) (n + length (flat (tree_at n (forest row_of es)))) (above_rise (forest row_of es) n 0 0)
    (subst (λ (low : ℕ). RiseTo low (live_tree es n) (n + length (flat (tree_at n (forest row_of es))))) here live))

-- and so have these headers and the element
pub path_numbers_rise : PathNumbersRise
path_numbers_rise es n known =
    rises 0 (path_to es n) (n + 1)
    (rise_both 0 (above_tree es n) (0 + n)
    (option_to_list (option_map (λ (e : Element). record { number = n; place = offset_of es n; element = e }) (slice_get es n))) (n + 1)
    (above_rise (forest row_of es) n 0 0) (one_rise n (offset_of es n) (slice_get es n)))
