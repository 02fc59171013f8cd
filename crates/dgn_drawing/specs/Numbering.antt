-- The numbers of nested elements: their spans, depths, parents, headers, roots and knots, and which are broken.
use Rattle.std.specs.Prelude.{ℕ, zero, suc, ◌+◌, ◌-◌, ◌==◌, ◌&&◌, ◌||◌, nat_lt, not, Bool, true, false, if◌then◌else◌, is_some, Option, Some, None}
use Rattle.std.specs.Prelude.{option_map, List, [], ◌∷◌, ◌++◌, length, slice_get}
use Rattle.dgn_drawing.specs.declared.row.Row.{Row}
use Rattle.dgn_drawing.specs.Nesting.{Knot, Loose, Forest, NoTree, Tree, flat, forest}

-- what is said of an element in its tree: what it is, how many headers lie above it, the number of the nearest
-- of them, and the number behind the last element below it
pub record Mark : Type 0 where
  pub knot : Knot
  pub depth : ℕ
  pub parent : Option ℕ
  pub end : ℕ

-- the number behind the last element below the head that has number n
abbrev pub end_of : {A : Type 0} → ℕ → Forest A → ℕ
end_of n below = n + 1 + length (flat below)

-- the marks of trees whose elements are numbered from n on and whose roots have that depth and that parent
abbrev pub marks : {A : Type 0} → Forest A → ℕ → ℕ → Option ℕ → List Mark
marks NoTree n depth parent = []
marks (Tree knot h below behind) n depth parent =
    record { knot = knot; depth = depth; parent = parent; end = end_of n below }
    ∷ (marks below (n + 1) (depth + 1) (Some n) ++ marks behind (end_of n below) depth parent)

-- the marks of all elements, which are numbered from 0, and whose roots have depth 0 and no parent
abbrev pub marks_of : {A : Type 0} → Forest A → List Mark
marks_of f = marks f 0 0 None

abbrev pub mark_of : {A : Type 0} → (A → Row) → List A → ℕ → Option Mark
mark_of row es n = slice_get (marks_of (forest row es)) n

-- the span of element n: its number, and the number behind the last element below it
abbrev pub span_of : {A : Type 0} → (A → Row) → List A → ℕ → Option (ℕ × ℕ)
span_of row es n = option_map (λ (m : Mark). (n, m.end)) (mark_of row es n)

abbrev pub depth_of : {A : Type 0} → (A → Row) → List A → ℕ → Option ℕ
depth_of row es n = option_map (λ (m : Mark). m.depth) (mark_of row es n)

abbrev pub parent_of : {A : Type 0} → (A → Row) → List A → ℕ → Option (Option ℕ)
parent_of row es n = option_map (λ (m : Mark). m.parent) (mark_of row es n)

abbrev pub knot_of : {A : Type 0} → (A → Row) → List A → ℕ → Option Knot
knot_of row es n = option_map (λ (m : Mark). m.knot) (mark_of row es n)

abbrev pub is_loose : Knot → Bool
is_loose Loose = true
is_loose other = false

-- an orphan is a root other than element 0 that has bit C
abbrev pub is_orphan : ℕ → Mark → Row → Bool
is_orphan n m r = not (n == 0) && not (is_some m.parent) && r.cbit

-- broken are loose headers and orphans
abbrev pub is_broken_as : {A : Type 0} → (A → Row) → ℕ → Option Mark → Option A → Bool
is_broken_as row n (Some m) (Some e) = is_loose m.knot || is_orphan n m (row e)
is_broken_as row n other another = false

abbrev pub is_broken : {A : Type 0} → (A → Row) → List A → ℕ → Bool
is_broken row es n = is_broken_as row n (mark_of row es n) (slice_get es n)

-- the first of so many numbers, from n on, that passes a test
abbrev pub first_from : (ℕ → Bool) → ℕ → ℕ → Option ℕ
first_from test n zero = None
first_from test n (suc count) = if test n then Some n else first_from test (n + 1) count

-- the least broken number in the span of element n
abbrev pub first_broken_of : {A : Type 0} → (A → Row) → List A → ℕ → Option (Option ℕ)
first_broken_of row es n = option_map (λ (m : Mark). first_from (is_broken row es) n (m.end - n)) (mark_of row es n)

-- the numbers of the headers above element n of trees that are numbered from `first` on, the root's first
abbrev pub headers_in : {A : Type 0} → ℕ → ℕ → Forest A → List ℕ
headers_in n first NoTree = []
headers_in zero first (Tree knot h below behind) = []
headers_in (suc n) first (Tree knot h below behind) =
    if nat_lt n (length (flat below)) then first ∷ headers_in n (first + 1) below
    else headers_in (n - length (flat below)) (end_of first below) behind

-- the numbers of the headers above element n
abbrev pub headers_of : {A : Type 0} → (A → Row) → List A → ℕ → List ℕ
headers_of row es n = headers_in n 0 (forest row es)

-- the first of some numbers, or another one where there is none
abbrev pub first_or : ℕ → List ℕ → ℕ
first_or n [] = n
first_or n (m ∷ ms) = m

-- the root of the tree that holds element n
abbrev pub root_of : {A : Type 0} → (A → Row) → List A → ℕ → Option ℕ
root_of row es n = if nat_lt n (length es) then Some (first_or n (headers_of row es n)) else None
