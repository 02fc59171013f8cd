-- Puts that rise: they lie within, they are apart, and two rising lists one behind the other rise.
use Rattle.std.proofs.Common.{ℕ, ◌+◌, ◌≤◌, List, [], ◌∷◌, ◌++◌, length, arith}
use Rattle.std.specs.List.{AllByRecursion}
use Rattle.patch_bytes.specs.Puts.{Put, AreWithin, IsApart, AreApart, Span}

-- it reaches from n to m
pub span_long : (m : ℕ) (ps : List Put) (n : ℕ) → Span n ps m → n ≤ m
span_long m [] n s = s
span_long m (p ∷ ps) n s = let l = span_long m ps _ s.1 in let f = s.0 in omega arith

pub span_more : (k m : ℕ) (ps qs : List Put) (n : ℕ) → Span n ps k → Span k qs m → Span n (ps ++ qs) m
span_more k m [] [] n s t = omega (arith, s, t)
span_more k m [] (q ∷ qs) n s t = (let f = t.0 in omega (arith, s, f), t.1)
span_more k m (p ∷ ps) qs n s t = (s.0, span_more k m ps qs _ s.1 t)

pub span_within : (m : ℕ) (ps : List Put) (n : ℕ) → Span n ps m → AreWithin m ps
span_within m [] n s = tt
span_within m (p ∷ ps) n s = (record { ends = span_long m ps _ s.1 }, span_within m ps _ s.1)

-- two puts of which the first ends where the second begins, or before
one_behind : (p q : Put) (n : ℕ) → p.at + length p.bytes ≤ n → n ≤ q.at → IsApart p q
one_behind p q n e f = record { none = λ k held also. let a = held.below in let b = also.from in absurd (omega arith) }

-- what ends by n is apart from all that rise from n on
span_behind : (m : ℕ) (p : Put) (ps : List Put) (n : ℕ) → p.at + length p.bytes ≤ n → Span n ps m → AllByRecursion (IsApart p) ps
span_behind m p [] n e s = tt
span_behind m p (q ∷ qs) n e s =
    (one_behind p q n e s.0, span_behind m p qs (q.at + length q.bytes) (let f = s.0 in omega arith) s.1)

pub span_apart : (m : ℕ) (ps : List Put) (n : ℕ) → Span n ps m → AreApart ps
span_apart m [] n s = tt
span_apart m (p ∷ ps) n s = (span_behind m p ps _ (omega arith) s.1, span_apart m ps _ s.1)
