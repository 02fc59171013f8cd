-- Each element's span ends behind the element.
use Rattle.std.proofs.Common.{ℕ, zero, suc, ◌≡◌, ◌+◌, ◌<◌, ◌∷◌, ◌++◌, [], List, length, ◌⊎◌, inl, inr, ap, arith}
use Rattle.std.specs.Prelude.{Option, Some, slice_get}
use Rattle.dgn_drawing.specs.Nesting.{Forest, NoTree, Tree}
use Rattle.dgn_drawing.specs.Numbering.{Mark, end_of, marks}
use Rattle.nest_tree.proofs.ListStacks.{length-marks}

-- an element of joined lists stands in the first or in the second one
slice_get-append : {X : Type 0} (xs ys : List X) (i : ℕ) (x : X) → slice_get (xs ++ ys) i ≡ Some x
    → (slice_get xs i ≡ Some x) ⊎ ((j : ℕ) × (i ≡ length xs + j) × (slice_get ys j ≡ Some x))
slice_get-append [] ys i x found = inr (i, omega arith, found)
slice_get-append (z ∷ xs) ys zero x found = inl found
slice_get-append (z ∷ xs) ys (suc i) x found =
    elim (slice_get-append xs ys i x found) [ inl here ↦ inl here | inr there ↦ let at = there.1 in inr (there.0, omega arith, there.2) ]

pub ends_behind : {A : Type 0} (f : Forest A) (n depth : ℕ) (parent : Option ℕ) (i : ℕ) (m : Mark) → slice_get (marks f n depth parent) i ≡ Some m
    → n + i < m.end
ends_behind NoTree n depth parent i m found = absurd (let f = found in cc)
ends_behind (Tree knot h below behind) n depth parent zero m found =
    let same : record { knot = knot; depth = depth; parent = parent; end = end_of n below } ≡ m = cc in
    let ends : end_of n below ≡ m.end = ap (λ (x : Mark). x.end) same in
    omega arith
ends_behind (Tree knot h below behind) n depth parent (suc i) m found =
    let inner = marks below (n + 1) (depth + 1) (Some n) in
    let many = length-marks below (n + 1) (depth + 1) (Some n) in
    elim (slice_get-append inner (marks behind (end_of n below) depth parent) i m found) [
      | inl here ↦ let later = ends_behind below (n + 1) (depth + 1) (Some n) i m here in omega arith
      | inr there ↦ let at = there.1 in let later = ends_behind behind (end_of n below) depth parent there.0 m there.2 in omega arith
    ]
