-- A field of a patch entry, as the bytes that it exchanges at a place of a body, and the rules that the fields of
-- an entry keep.
use Rattle.std.specs.Prelude.{ℕ, ◌≡◌, ◌+◌, ◌≤◌, List, [], ◌∷◌, length}

-- at a place, the bytes that stood there, and those that are put there
pub record Exchange : Type 0 where
  pub at : ℕ
  pub was : List ℕ
  pub put : List ℕ

-- a field behind one that ends at `from`, or behind none, in an entry of the old length `len`
pub record KeepsRules (from len : ℕ) (f : Exchange) : Type 0 where
  pub least : 1 ≤ length f.was
  pub most : length f.was ≤ 4
  pub same : length f.put ≡ length f.was
  pub behind : from ≤ f.at
  pub within : f.at + length f.was ≤ len

-- each of them keeps the rules, the first behind one that ends at `from`
abbrev pub AllKeepRules : ℕ → ℕ → List Exchange → Type 0
AllKeepRules from len [] = Unit {0}
AllKeepRules from len (f ∷ fs) = KeepsRules from len f × AllKeepRules (f.at + length f.was) len fs

-- one to four bytes are exchanged for as many
pub record IsSized (f : Exchange) : Type 0 where
  pub least : 1 ≤ length f.was
  pub most : length f.was ≤ 4
  pub same : length f.put ≡ length f.was
