-- What is told of a run that writes a file and then says a text, and what where that was stopped.
use Rattle.std.proofs.Common.{◌≡◌, List, [], ◌++◌, ap, ◌∙◌, ℕ, take, Option, Some, None, Result, Ok, Err, inl, inr, refl, sym}
use Rattle.std.specs.Prelude.{option_map, IfSome}
use Rattle.std.proofs.lemmas.List.{append-nil}
use Rattle.dgn_desk.specs.Content.{Content, all_said, filed}
use Rattle.dgn_desk.specs.Desk.{FilesAll}
use Rattle.dgn_desk.specs.Seen.{Seen, Writes}
use Rattle.dgn_desk.specs.declared.stop.Stop.{Stop}
use Rattle.dgn_desk.proofs.InTurn.{stopped_so, then_so}
use Rattle.dgn_tool.specs.Ended.{ended, filed_then_said}
use Rattle.dgn_tool.specs.Ends.{Tells, status_said}
use Rattle.dgn_tool.specs.Leaving.{Leaves, Stops, IsFrontOf}
use Rattle.dgn_tool.specs.declared.ending.Ending.{Ending}
use Rattle.dgn_tool.specs.declared.status.Status.{Status}
use Rattle.dgn_tool.proofs.ToldContents.{is_taken}

module _ (status : Status) (text name bytes : List ℕ) where
  -- nothing of the file was written
  unwritten : (old now : Option Content) → now ≡ old → IfSome old (λ c. Stops (filed_then_said status text name bytes) c now)
  unwritten None now e = tt
  unwritten (Some c) now e =
      record {
        content = c;
        told_is = e;
        front = [];
        is_front = (text, refl);
        said_is = sym (append-nil (all_said c));
        files_are = inl refl;
        in_order = inl refl;
        begun_is = inl (refl, refl);
      }

  -- or a front of it was
  written_front : (front : List ℕ) (old now : Option Content) → IsFrontOf bytes front → now ≡ option_map (filed name front) old
      → IfSome old (λ c. Stops (filed_then_said status text name bytes) c now)
  written_front front None now is e = tt
  written_front front (Some c) now is e =
      record {
        content = filed name front c;
        told_is = e;
        front = [];
        is_front = (text, refl);
        said_is = refl;
        files_are = inr (front, is, refl);
        in_order = inl refl;
        begun_is = inr (sym (append-nil (all_said c)));
      }

  pub written_part : (stop : Stop) (old now : Option Content) → FilesAll (Err stop) name bytes old now
      → IfSome old (λ c. Stops (filed_then_said status text name bytes) c now)
  written_part stop old now (inl e) = unwritten old now e
  written_part stop old now (inr part) = written_front (take part.0 bytes) old now (is_taken bytes part.0) part.2

  -- the file was written, and the run came to the end of its text
  leaves_filed : (ending : Status) (old mid now : Option Content) → mid ≡ option_map (filed name bytes) old
      → IfSome mid (λ c. Leaves (ended status text) ending c now) → IfSome old (λ c. Leaves (filed_then_said status text name bytes) ending c now)
  leaves_filed ending None mid now is leaves = tt
  leaves_filed ending (Some c) mid now is leaves =
      let l : Leaves (ended status text) ending (filed name bytes c) now = rw is at leaves in
      record {
        status_is = l.status_is;
        content = l.content;
        told_is = l.told_is;
        said_is = l.said_is ∙ ap (λ t. t ++ text) (append-nil (all_said c));
        files_are = l.files_are;
        settled_is = l.settled_is ∙ sym (append-nil (all_said c));
      }

  -- or was stopped there
  stops_filed : (old mid now : Option Content) → mid ≡ option_map (filed name bytes) old → IfSome mid (λ c. Stops (ended status text) c now)
      → IfSome old (λ c. Stops (filed_then_said status text name bytes) c now)
  stops_filed None mid now is stops = tt
  stops_filed (Some c) mid now is stops =
      let s : Stops (ended status text) (filed name bytes c) now = rw is at stops in
      record {
        content = s.content;
        told_is = s.told_is;
        front = s.front;
        is_front = s.is_front;
        said_is = s.said_is ∙ ap (λ t. t ++ s.front) (append-nil (all_said c));
        files_are = inr (bytes, ([], sym (append-nil bytes)), s.files_are);
        in_order = inr s.files_are;
        begun_is = inr (s.begun_is ∙ sym (append-nil (all_said c)));
      }

  pub filed_first : (r : Result Ending Stop) (old mid now : Option Content) → mid ≡ option_map (filed name bytes) old
      → Tells (ended status text) r mid now → Tells (filed_then_said status text name bytes) r old now
  filed_first (Ok ending) old mid now is tells = leaves_filed (status_said ending) old mid now is tells
  filed_first (Err stop) old mid now is tells = stops_filed old mid now is tells

-- The calls that write the file and then say the text, one after the other.

pub file_then_ends : (ending : Ending) (text name bytes : List ℕ) (r : Result Ending Stop) (old mid new : Seen)
    → Writes {T = Unit {0}} (Ok tt) (FilesAll (Ok tt) name bytes) old mid → Writes r (Tells (ended (status_said ending) text) r) mid new
    → Writes r (Tells (filed_then_said (status_said ending) text name bytes) r) old new
file_then_ends ending text name bytes r old mid new wrote ends =
    then_so tt r wrote ends (filed_first (status_said ending) text name bytes r old.content mid.content new.content)

pub file_stops : (ending : Ending) (text name bytes : List ℕ) (stop : Stop) (old new : Seen)
    → Writes {T = Unit {0}} (Err stop) (FilesAll (Err stop) name bytes) old new
    → Writes {T = Ending} (Err stop) (Tells (filed_then_said (status_said ending) text name bytes) (Err stop)) old new
file_stops ending text name bytes stop old new wrote = stopped_so stop wrote (written_part (status_said ending) text name bytes stop old.content new.content)
