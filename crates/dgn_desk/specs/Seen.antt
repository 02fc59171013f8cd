-- What is seen of a desk, as one value, and what calls leave of it: those that only read, and those that say or write.
use Rattle.std.specs.Prelude.{ℕ, ◌≡◌, Option, Result, Bool, IsTrue}
use Rattle.dgn_desk.specs.declared.desk.Desk.{Ghosts}
use Rattle.dgn_desk.specs.declared.stop.Stop.{Stop}
use Rattle.dgn_desk.specs.Content.{Content, OnlyLeftDiffers}
use Rattle.dgn_desk.specs.Desk.{Counts, StaysWilling, DoesNotFail}

-- both counts of faults, what the desk holds where it tells it, whether it is willing, and whether it is strict
pub record Seen : Type 0 where
  pub read_faults : ℕ
  pub write_faults : ℕ
  pub content : Option Content
  pub willing : Bool
  pub strict : Bool

-- what is seen of this desk
abbrev pub seen : {D : Type 0} → Ghosts D → D → Seen
seen g d = record {
  read_faults = g.read_faults d;
  write_faults = g.write_faults d;
  content = g.content d;
  willing = g.willing d;
  strict = g.strict;
}

-- what calls leave that came to their end and only read: what is left to read may differ, no fault was counted, and a desk is
-- as strict as before
pub record OnlyReads (old new : Seen) : Type 0 where
  pub changes : OnlyLeftDiffers old.content new.content
  pub calm : new.read_faults ≡ old.read_faults
  pub quiet : new.write_faults ≡ old.write_faults
  pub stays_willing : StaysWilling old.willing new.willing
  pub as_strict : new.strict ≡ old.strict

-- what a call leaves that says or writes: a fault of writing is counted exactly where it failed, what is told changed so,
-- and a desk that was willing is so still and didn't fail
pub record Writes {T : Type 0} (result : Result T Stop) (change : Option Content → Option Content → Type 0) (old new : Seen) : Type 0 where
  pub cause : Counts old.write_faults new.write_faults result
  pub other : new.read_faults ≡ old.read_faults
  pub changes : change old.content new.content
  pub stays_willing : StaysWilling old.willing new.willing
  pub never_fails : IsTrue old.willing → DoesNotFail result

-- the same of a desk before and after
abbrev pub DeskWrites : {D T : Type 0} → Ghosts D → Result T Stop → (Option Content → Option Content → Type 0) → D → D → Type 0
DeskWrites g result change old new = Writes result change (seen g old) (seen g new)
