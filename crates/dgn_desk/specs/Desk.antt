-- What the calls of a desk answer and change. What a desk holds is told or not, and each clause says
-- what is told after a call by what was told before it.
use Rattle.std.specs.Prelude.{ℕ, ◌≡◌, ◌⊎◌, ◌+◌, ◌-◌, ◌^◌, ◌≤◌, ◌<◌, min, List, [], ◌++◌, length, take, drop, Option, option_map, Result, Ok, Err, IfOk}
use Rattle.std.specs.Prelude.{IfSome, Bool, IsTrue, ⊤}
use Rattle.dgn_desk.specs.declared.stop.Stop.{Stop}
use Rattle.dgn_desk.specs.declared.stop.Stop.TheVariants.{Failed, Memory}
use Rattle.dgn_desk.specs.declared.reading.ReadEnd.{ReadEnd}
use Rattle.dgn_desk.specs.declared.reading.ReadEnd.TheVariants as ends
use Rattle.dgn_desk.specs.Content.{Content, spoken, filed}

-- one more, up to the last value of a counter of 64 bits
abbrev pub one_more : ℕ → ℕ
one_more count = min (count + 1) (2 ^ 64 - 1)

-- a count of faults rose: it is greater, or has reached the last value of a counter of 64 bits
abbrev pub Rose : ℕ → ℕ → Type 0
Rose before now = one_more before ≤ now

-- a call's own count of faults: it rose where the call failed, and else stands still
abbrev pub Counts : {T : Type 0} → ℕ → ℕ → Result T Stop → Type 0
Counts before now (Ok x) = now ≡ before
Counts before now (Err Failed) = (before ≤ now) × Rose before now
Counts before now (Err Memory) = now ≡ before

-- a call didn't fail: it succeeded, or found no memory
abbrev pub DoesNotFail : {T : Type 0} → Result T Stop → Type 0
DoesNotFail (Ok x) = ⊤
DoesNotFail (Err Failed) = ⊥
DoesNotFail (Err Memory) = ⊤

-- a desk that was willing is so still
abbrev pub StaysWilling : Bool → Bool → Type 0
StaysWilling before now = IsTrue before → IsTrue now

-- what is told after a call: the change that it makes where it succeeds, else what was told before
abbrev pub Changes : {T : Type 0} → Result T Stop → (T → Content → Content) → Option Content → Option Content → Type 0
Changes (Ok x) change old new = new ≡ option_map (change x) old
Changes (Err e) change old new = new ≡ old

-- so many bytes of what is left are in the front of the buffer; none into a buffer with room means that none was left
pub record TakesFirst (left : List ℕ) (buffer : List ℕ) (count : ℕ) : Type 0 where
  pub most : count ≤ length left
  pub same : take count buffer ≡ take count left
  pub done : count ≡ 0 → 0 < length buffer → left ≡ []

-- what a read put into the buffer
abbrev pub Reads : Result ℕ Stop → Option Content → List ℕ → Type 0
Reads result old buffer = IfOk result (λ count. IfSome old (λ c. TakesFirst c.left buffer count))

-- so many bytes of a piece were taken: at least one, where it has any
pub record TakesSome (piece : List ℕ) (count : ℕ) : Type 0 where
  pub most : count ≤ length piece
  pub least : 0 < length piece → 0 < count

-- all bytes were said, or, where that stopped, some first part of them
abbrev pub SaysAll : Result (Unit {0}) Stop → List ℕ → Option Content → Option Content → Type 0
SaysAll (Ok x) bytes old new = new ≡ option_map (spoken bytes) old
SaysAll (Err e) bytes old new = (count : ℕ) × (count ≤ length bytes) × (new ≡ option_map (spoken (take count bytes)) old)

-- the named file has these bytes, or, where that stopped, some first part of them; or it wasn't begun, and nothing changed
abbrev pub FilesAll : Result (Unit {0}) Stop → List ℕ → List ℕ → Option Content → Option Content → Type 0
FilesAll (Ok x) name bytes old new = new ≡ option_map (filed name bytes) old
FilesAll (Err e) name bytes old new = (new ≡ old) ⊎ ((count : ℕ) × (count ≤ length bytes) × (new ≡ option_map (filed name (take count bytes)) old))

-- behind these bytes of the named file all the others were written, or, where that stopped, some first part of them
abbrev pub AddsAll : Result (Unit {0}) Stop → List ℕ → List ℕ → List ℕ → Option Content → Option Content → Type 0
AddsAll (Ok x) name so_far bytes old new = new ≡ option_map (filed name (so_far ++ bytes)) old
AddsAll (Err e) name so_far bytes old new = (count : ℕ) × (count ≤ length bytes) × (new ≡ option_map (filed name (so_far ++ take count bytes)) old)

-- the end of a reading that a stop makes
abbrev pub read_end_of : Stop → ReadEnd
read_end_of Failed = ends.Fault
read_end_of Memory = ends.Memory

-- the count of faults of reading over the reading of a whole file: it rose where that ended by a fault, and else stands still
abbrev pub ReadCounts : {T : Type 0} → ℕ → ℕ → Result T ReadEnd → Type 0
ReadCounts before now (Ok x) = now ≡ before
ReadCounts before now (Err ends.Fault) = (before ≤ now) × Rose before now
ReadCounts before now (Err ends.TooLong) = now ≡ before
ReadCounts before now (Err ends.Memory) = now ≡ before

-- the reading of a whole file didn't end by a fault
abbrev pub DoesNotFault : {T : Type 0} → Result T ReadEnd → Type 0
DoesNotFault (Ok x) = ⊤
DoesNotFault (Err ends.Fault) = ⊥
DoesNotFault (Err ends.TooLong) = ⊤
DoesNotFault (Err ends.Memory) = ⊤

-- a file was read: whole, or so far as shows that it is too long
abbrev pub WasRead : {T : Type 0} → Result T ReadEnd → Type 0
WasRead (Ok x) = ⊤
WasRead (Err ends.Fault) = ⊥
WasRead (Err ends.TooLong) = ⊤
WasRead (Err ends.Memory) = ⊥

-- what stands behind some first part of these bytes that has at most so many
abbrev pub IsRestOf : ℕ → List ℕ → List ℕ → Type 0
IsRestOf most bytes left = (count : ℕ) × (count ≤ most) × (left ≡ drop count bytes)

-- what is left to read after the reading of a whole file of these bytes, of which so many were allowed: nothing once it was
-- read; of one that is too long what stands behind one byte more; and where the reading stopped what was left before, or what
-- stands behind the bytes that were read, at most one more than were allowed
abbrev pub LeftAfter : {T : Type 0} → Result T ReadEnd → ℕ → List ℕ → List ℕ → List ℕ → Type 0
LeftAfter (Ok x) limit bytes before now = now ≡ []
LeftAfter (Err ends.TooLong) limit bytes before now = now ≡ drop (limit + 1) bytes
LeftAfter (Err ends.Fault) limit bytes before now = (now ≡ before) ⊎ IsRestOf (limit + 1) bytes now
LeftAfter (Err ends.Memory) limit bytes before now = (now ≡ before) ⊎ IsRestOf (limit + 1) bytes now

-- the same, where it is told what is left
abbrev pub LeavesToRead : {T : Type 0} → Result T ReadEnd → ℕ → (Content → List ℕ) → Option Content → Option Content → Type 0
LeavesToRead result limit bytes old new = IfSome old (λ b. IfSome new (λ n. LeftAfter result limit (bytes b) b.left n.left))
