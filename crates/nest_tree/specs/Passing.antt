-- The broken numbers of a nesting, as a list, and which of them a span has.
use Rattle.std.specs.Prelude.{ℕ, zero, suc, ◌+◌, nat_lt, Bool, if◌then◌else◌, Option, Some, None, List, [], ◌∷◌, length}
use Rattle.dgn_drawing.specs.declared.row.Row.{Row}
use Rattle.dgn_drawing.specs.Nesting.{itself}
use Rattle.dgn_drawing.specs.Numbering.{is_broken}

-- of so many numbers, from n on, those that pass a test
abbrev pub passing : (ℕ → Bool) → ℕ → ℕ → List ℕ
passing test n zero = []
passing test n (suc count) = if test n then n ∷ passing test (n + 1) count else passing test (n + 1) count

-- the numbers of all broken elements
unfoldable pub broken_in : List Row → List ℕ
broken_in rows = passing (is_broken itself rows) 0 (length rows)

-- the first of some numbers that isn't below n
abbrev pub first_at : ℕ → List ℕ → Option ℕ
first_at n [] = None
first_at n (m ∷ ms) = if nat_lt m n then first_at n ms else Some m

-- of some numbers those before the first that isn't below n
abbrev pub below : ℕ → List ℕ → List ℕ
below n [] = []
below n (m ∷ ms) = if nat_lt m n then m ∷ below n ms else []

-- a number, where it is below an end
abbrev pub if_below : ℕ → Option ℕ → Option ℕ
if_below end None = None
if_below end (Some m) = if nat_lt m end then Some m else None
