-- What holds of all puts.
use Rattle.std.specs.Prelude.{ℕ, ◌≡◌, ◌-◌, List, ◌++◌, length, map, slice_index}
use Rattle.std.specs.List.{AllByRecursion}
use Rattle.patch_bytes.specs.Puts.{Put, lay, write, write_back, old_of, olds, IsWithin, AreWithin, Holds, AreApart, Span}

-- what stood in b where p is laid, laid in turn, gives b, and what stands there then is p
abbrev pub LayingExchanges : Type 0
LayingExchanges =
    (b : List ℕ) (p : Put) → IsWithin (length b) p
    → (lay (lay b p) (old_of b p) ≡ b) × (old_of (lay b p) (old_of b p) ≡ p)

-- a byte that is held is that of the put, and every other stays
abbrev pub LayingIsLocal : Type 0
LayingIsLocal =
    (b : List ℕ) (p : Put) (k : ℕ) → IsWithin (length b) p
    → (Holds p k → slice_index (lay b p) k ≡ slice_index p.bytes (k - p.at))
    × ((Holds p k → ⊥) → slice_index (lay b p) k ≡ slice_index b k)

-- puts laid in turn, and what stood there each time laid from the last to the first, give the bytes before
abbrev pub WritingBackRestores : Type 0
WritingBackRestores =
    (b : List ℕ) (ps : List Put) → AreWithin (length b) ps
    → write_back (write b ps) (olds b ps) ≡ b

-- where no byte is held twice, what stood there each time stood there from the first
abbrev pub ApartHoldTheFirst : Type 0
ApartHoldTheFirst =
    (b : List ℕ) (ps : List Put) → AreWithin (length b) ps → AreApart ps
    → olds b ps ≡ map (old_of b) ps

-- the length stays, and so does every byte that none of them holds
abbrev pub OtherBytesStay : Type 0
OtherBytesStay =
    (b : List ℕ) (ps : List Put) → AreWithin (length b) ps
    → (length (write b ps) ≡ length b)
    × ((k : ℕ) → AllByRecursion (λ p. Holds p k → ⊥) ps → slice_index (write b ps) k ≡ slice_index b k)

-- what is written in a front part leaves what is behind it
abbrev pub BytesBehindStay : Type 0
BytesBehindStay =
    (b more : List ℕ) (ps : List Put) → AreWithin (length b) ps
    → write (b ++ more) ps ≡ write b ps ++ more

-- puts that rise lie within, and no byte is held by two
abbrev pub RisingPutsAreApart : Type 0
RisingPutsAreApart = (n m : ℕ) (ps : List Put) → Span n ps m → AreWithin m ps × AreApart ps

-- and one list behind another that rises, rising from where that ends, rises with it
abbrev pub RisingPutsJoin : Type 0
RisingPutsJoin = (n k m : ℕ) (ps qs : List Put) → Span n ps k → Span k qs m → Span n (ps ++ qs) m
