-- The fields that puts fill: they rise as the puts do, and a byte in none is held by no put.
use Rattle.std.proofs.Common.{ℕ, ◌+◌, List, [], ◌∷◌, length, map}
use Rattle.std.specs.List.{AllByRecursion}
use Rattle.patch_bytes.specs.Puts.{Put, Holds, Span}
use Rattle.edit_ops.specs.Fields.{IsIn, Rise}
use Rattle.edit_ops.proofs.LivePuts.{field_of}

-- the fields of puts that rise do so
pub fields_rise : (m : ℕ) (ps : List Put) (n : ℕ) → Span n ps m → Rise n (map field_of ps) m
fields_rise m [] n span = span
fields_rise m (p ∷ ps) n span = (span.0, fields_rise m ps (p.at + length p.bytes) span.1)

-- a byte in no field is held by no put
pub held_by_none : (k : ℕ) (ps : List Put) → AllByRecursion (λ f. ¬ IsIn f k) (map field_of ps) → AllByRecursion (λ p. Holds p k → ⊥) ps
held_by_none k [] none = tt
held_by_none k (p ∷ ps) none = ((λ held. none.0 (record { from = held.from; below = held.below })), held_by_none k ps none.1)
