-- An entry of the log, writing one back, and the bodies that entries lead back to. A body is the bytes of the
-- elements of a design.
use Rattle.std.specs.Prelude.{ℕ, zero, suc, ◌≡◌, ◌≤◌, List, [], ◌∷◌, ◌++◌, length, take, map}
use Rattle.patch_bytes.specs.Puts.{Put, write_back, old_of, AreWithin}
use Rattle.undo_log.specs.declared.entry.Entry.{Entry}

-- the entry of an edit that writes ps into the body b: what stands there, and the length
abbrev pub entry_of : List ℕ → List Put → Entry
entry_of b ps = record { patches = map (old_of b) ps; len = length b }

-- an entry written back: the body is cut to the entry's length, and its patches are written, the last first
abbrev pub back : List ℕ → Entry → List ℕ
back b e = write_back (take e.len b) e.patches

-- an entry can be written back into n bytes
pub record Fits (n : ℕ) (e : Entry) : Type 0 where
  pub long : e.len ≤ n
  pub within : AreWithin e.len e.patches

-- so can the newest of entries that stand the newest first
abbrev pub NewestFits : ℕ → List Entry → Type 0
NewestFits n [] = Unit {0}
NewestFits n (e ∷ es) = Fits n e

-- the last entry of the log, the oldest first, was dropped and written back
pub record IsUndone (old : List Entry) (b : List ℕ) (new : List Entry) (c : List ℕ) : Type 0 where
  pub last : Entry
  pub dropped : old ≡ new ++ last ∷ []
  pub body : c ≡ back b last

-- In what follows entries stand the newest first, so they are the log's reversed.

-- the body with the k newest written back, each in turn
abbrev pub back_by : ℕ → List ℕ → List Entry → List ℕ
back_by zero b es = b
back_by (suc k) b [] = b
back_by (suc k) b (e ∷ es) = back_by k (back b e) es

-- the body, and what it is after each is written back in turn
abbrev pub bodies : List ℕ → List Entry → List (List ℕ)
bodies b [] = b ∷ []
bodies b (e ∷ es) = b ∷ bodies (back b e) es

-- each can be written back when its turn comes
abbrev pub AreFit : List ℕ → List Entry → Type 0
AreFit b [] = Unit {0}
AreFit b (e ∷ es) = Fits (length b) e × AreFit (back b e) es
