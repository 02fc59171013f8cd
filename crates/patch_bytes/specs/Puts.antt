-- What patches do to bytes. A put is some bytes and a place; a list of puts is written in order, and written
-- back from the last to the first.
use Rattle.std.specs.Prelude.{ℕ, ◌+◌, ◌<◌, ◌≤◌, List, [], ◌∷◌, ◌++◌, length, take, drop}
use Rattle.std.specs.List.{AllByRecursion}

-- some bytes at a place
pub record Put : Type 0 where
  pub at : ℕ
  pub bytes : List ℕ

-- the bytes b with those of p over what stands from its place on
unfoldable pub lay : List ℕ → Put → List ℕ
lay b p = take p.at b ++ p.bytes ++ drop (p.at + length p.bytes) b

-- the bytes with each put laid, the first first
abbrev pub write : List ℕ → List Put → List ℕ
write b [] = b
write b (p ∷ ps) = write (lay b p) ps

-- the bytes with each put laid, the last first
abbrev pub write_back : List ℕ → List Put → List ℕ
write_back b [] = b
write_back b (p ∷ ps) = lay (write_back b ps) p

-- what stands in b where p is laid
unfoldable pub old_of : List ℕ → Put → Put
old_of b p = record { at = p.at; bytes = take (length p.bytes) (drop p.at b) }

-- while each put is laid, the first first: what stood there when its turn came
abbrev pub olds : List ℕ → List Put → List Put
olds b [] = []
olds b (p ∷ ps) = old_of b p ∷ olds (lay b p) ps

-- p lies in n bytes
pub record IsWithin (n : ℕ) (p : Put) : Type 0 where
  pub ends : p.at + length p.bytes ≤ n

-- each of them lies in n bytes
abbrev pub AreWithin : ℕ → List Put → Type 0
AreWithin n ps = AllByRecursion (IsWithin n) ps

-- the byte at place k is one of those of p
pub record Holds (p : Put) (k : ℕ) : Type 0 where
  pub from : p.at ≤ k
  pub below : k < p.at + length p.bytes

-- no byte is held by both
pub record IsApart (p q : Put) : Type 0 where
  pub none : (k : ℕ) → Holds p k → Holds q k → ⊥

-- no byte is held by two of them
abbrev pub AreApart : List Put → Type 0
AreApart [] = Unit {0}
AreApart (p ∷ ps) = AllByRecursion (IsApart p) ps × AreApart ps

-- from n on, each ends where the next begins or before, and the last ends by m
abbrev pub Span : ℕ → List Put → ℕ → Type 0
Span n [] m = n ≤ m
Span n (p ∷ ps) m = (n ≤ p.at) × Span (p.at + length p.bytes) ps m
