-- Calls that say or write, one after the other: what they leave of a desk together.
use Rattle.std.proofs.Common.{ℕ, Option, Result, Ok, Err, ◌∙◌, refl, subst}
use Rattle.dgn_desk.specs.Content.{Content}
use Rattle.dgn_desk.specs.Desk.{Counts}
use Rattle.dgn_desk.specs.Seen.{Seen, Writes}
use Rattle.dgn_desk.specs.declared.stop.Stop.{Stop}
use Rattle.dgn_desk.specs.declared.stop.Stop.TheVariants as stops

-- a call that came to its end leaves so too what its change comes to, whatever it answers
pub done_so : {T U : Type 0} {P Q : Option Content → Option Content → Type 0} {old new : Seen} (x : T) (y : U)
    → Writes (Ok x) P old new → (P old.content new.content → Q old.content new.content) → Writes (Ok y) Q old new
done_so x y did so = record { cause = did.cause; other = did.other; changes = so did.changes; stays_willing = did.stays_willing; never_fails = λ _. tt }

-- and so does one that was stopped
pub stopped_so : {T U : Type 0} {P Q : Option Content → Option Content → Type 0} {old new : Seen} (stop : Stop)
    → Writes {T = T} (Err stop) P old new → (P old.content new.content → Q old.content new.content) → Writes {T = U} (Err stop) Q old new
stopped_so stops.Failed did so = record
    { cause = did.cause; other = did.other; changes = so did.changes; stays_willing = did.stays_willing; never_fails = did.never_fails }
stopped_so stops.Memory did so = record
    { cause = did.cause; other = did.other; changes = so did.changes; stays_willing = did.stays_willing; never_fails = did.never_fails }

-- a second call behind one that came to its end
pub then_so : {T U : Type 0} {P Q R : Option Content → Option Content → Type 0} {old mid new : Seen} (x : T) (r : Result U Stop)
    → Writes (Ok x) P old mid → Writes r Q mid new → (P old.content mid.content → Q mid.content new.content → R old.content new.content)
    → Writes r R old new
then_so {mid = mid} {new = new} x r one two so = record {
  cause = subst (λ (n : ℕ). Counts n new.write_faults r) one.cause two.cause;
  other = two.other ∙ one.other;
  changes = so one.changes two.changes;
  stays_willing = λ willing. two.stays_willing (one.stays_willing willing);
  never_fails = λ willing. two.never_fails (one.stays_willing willing);
}

-- where there was no memory, and nothing was done
pub wanted : {U : Type 0} {Q : Option Content → Option Content → Type 0} (old : Seen) → Q old.content old.content → Writes {T = U} (Err stops.Memory) Q old old
wanted old so = record { cause = refl; other = refl; changes = so; stays_willing = λ willing. willing; never_fails = λ _. tt }

-- a call that came to its end leaves the same, whatever it answers
pub done_with : {T U : Type 0} {P : Option Content → Option Content → Type 0} {old new : Seen} (x : T) (y : U) → Writes (Ok x) P old new
    → Writes (Ok y) P old new
done_with x y did = record { cause = did.cause; other = did.other; changes = did.changes; stays_willing = did.stays_willing; never_fails = λ _. tt }
