-- What is told once all commands were said and the file was written, and what where that was stopped.
use Rattle.std.proofs.Common.{◌≡◌, List, [], ℕ, length, vec_len, take}
use Rattle.std.proofs.Common.{Option, Some, None, Ok, Err, inl, inr, refl, sym, ap, ◌∙◌, subst}
use Rattle.std.specs.Prelude.{option_map, IfSome}
use Rattle.std.proofs.lemmas.List.{append-nil}
use Rattle.dgn_desk.specs.Content.{Content, all_said, filed, spoken}
use Rattle.dgn_desk.specs.Desk.{FilesAll}
use Rattle.dgn_desk.specs.Seen.{Seen, Writes}
use Rattle.dgn_desk.specs.declared.stop.Stop.{Stop}
use Rattle.dgn_desk.proofs.InTurn.{done_with, stopped_so, then_so}
use Rattle.dgn_drawing.specs.Opening.{elements_of}
use Rattle.dgn_drawing.specs.Spelling.{spelling}
use Rattle.elem_index.specs.declared.design.Design.{Design}
use Rattle.elem_index.specs.Design.{IsWhole}
use Rattle.dgn_session.specs.State.{State}
use Rattle.dgn_import.proofs.SpelledBodies.{spelled_with}
use Rattle.dgn_answers.specs.Steps.{Step, after_all, texts_of, refused_count}
use Rattle.dgn_tool.specs.Filling.{file_made}
use Rattle.dgn_tool.specs.Ended.{said_then_filed}
use Rattle.dgn_tool.specs.FileAfter.{file_after}
use Rattle.dgn_tool.specs.Ended.{status_with}
use Rattle.dgn_tool.specs.Ends.{Tells, status_said}
use Rattle.dgn_tool.specs.Outcome.{edited_from}
use Rattle.dgn_tool.specs.Leaving.{Leaves, Stops, IsFrontOf, SaysFront, SaysAs}
use Rattle.dgn_tool.specs.declared.ending.Ending.{Ending}
use Rattle.dgn_tool.specs.declared.status.Status.{Status}
use Rattle.dgn_tool.proofs.ToldContents.{is_taken, said_behind}

module _ (status : Status) (text name bytes : List ℕ) where
  -- all was said, and the file was written
  pub all_filed : (old mid now : Option Content) → mid ≡ option_map (spoken text) old → now ≡ option_map (filed name bytes) mid
      → IfSome old (λ c. Leaves (said_then_filed status text name bytes) status c now)
  all_filed None mid now said e = tt
  all_filed (Some c) mid now said e =
      record {
        status_is = refl;
        content = filed name bytes (spoken text c);
        told_is = rw (e, said) refl;
        said_is = append-nil (all_said (spoken text c)) ∙ said_behind text c;
        files_are = refl;
        settled_is = said_behind text c;
      }

  -- a front was said
  front_said : (front : List ℕ) (old now : Option Content) → IsFrontOf text front → now ≡ option_map (spoken front) old
      → IfSome old (λ c. Stops (said_then_filed status text name bytes) c now)
  front_said front None now is e = tt
  front_said front (Some c) now is e =
      record {
        content = spoken front c;
        told_is = e;
        front = front;
        is_front = is;
        said_is = said_behind front c;
        files_are = inl refl;
        in_order = inr refl;
        begun_is = inl (refl, refl);
      }

  pub stopped_saying : (old now : Option Content) → SaysFront text old now → IfSome old (λ c. Stops (said_then_filed status text name bytes) c now)
  stopped_saying old now says = front_said says.0 old now says.1 says.2

  -- all was said, and a front of the file was written
  front_filed : (front : List ℕ) (old mid now : Option Content) → mid ≡ option_map (spoken text) old → IsFrontOf bytes front
      → now ≡ option_map (filed name front) mid → IfSome old (λ c. Stops (said_then_filed status text name bytes) c now)
  front_filed front None mid now said is e = tt
  front_filed front (Some c) mid now said is e =
      record {
        content = filed name front (spoken text c);
        told_is = rw (e, said) refl;
        front = text;
        is_front = ([], sym (append-nil text));
        said_is = append-nil (all_said (spoken text c)) ∙ said_behind text c;
        files_are = inr (front, is, refl);
        in_order = inl refl;
        begun_is = inr (said_behind text c);
      }

  -- or nothing of it was
  unfiled : (old mid now : Option Content) → mid ≡ option_map (spoken text) old → now ≡ mid
      → IfSome old (λ c. Stops (said_then_filed status text name bytes) c now)
  unfiled old mid now said e = front_said text old now ([], sym (append-nil text)) (e ∙ said)

  pub stopped_filing : (stop : Stop) (old mid now : Option Content) → mid ≡ option_map (spoken text) old → FilesAll (Err stop) name bytes mid now
      → IfSome old (λ c. Stops (said_then_filed status text name bytes) c now)
  stopped_filing stop old mid now said (inl e) = unfiled old mid now said e
  stopped_filing stop old mid now said (inr part) = front_filed (take part.0 bytes) old mid now said (is_taken bytes part.0) part.2

-- as many bytes as they spell
pub begun_with : (dim : ℕ) (body : List ℕ) (d : Design) (n : ℕ) → IsWhole d → d.dim ≡ dim → d.body.items ≡ body → n ≡ vec_len d.body
    → n ≡ length (spelling (elements_of dim body))
begun_with dim body d n whole axes text counted = counted ∙ d.body.ok.0 ∙ ap (length {A = ℕ}) (spelled_with dim body d whole axes text)

-- the drawing that is written is that of the elements after the commands, with the same tail
pub made_so : (s new : State) (t tail : List ℕ) (cs : List Step) (before : ℕ) → new ≡ after_all cs s → tail ≡ t → before ≡ length (spelling s.top)
    → file_made before tail (spelling new.top) ≡ file_after s t cs
made_so s new t tail cs before drawn back begun =
    ap (λ (n : ℕ). file_made n tail (spelling new.top)) begun
    ∙ ap (λ (n : State). file_made (length (spelling s.top)) tail (spelling n.top)) drawn
    ∙ ap (λ (b : List ℕ). file_made (length (spelling s.top)) b (spelling (after_all cs s).top)) back

-- The commands of an edit and its file.

module _ (s : State) (t : List ℕ) (cs : List Step) (output file : List ℕ) (file_is : file ≡ file_after s t cs) where
  -- all commands were said, and the file was written
  pub edited : {old mid new : Seen} (refused : ℕ) (ending : Ending) → refused ≡ refused_count cs s → status_said ending ≡ status_with refused
      → Writes {T = ℕ} (Ok refused) (SaysAs {T = ℕ} (Ok refused) (texts_of cs s)) old mid → Writes {T = Unit {0}} (Ok tt) (FilesAll (Ok tt) output file) mid new
      → Writes {T = Ending} (Ok ending) (Tells (edited_from s t cs output) (Ok ending)) old new
  edited {old = old} {mid = mid} {new = new} refused ending count is said wrote =
      then_so refused (Ok ending) said (done_with tt ending wrote) (λ a b.
      subst (λ (status : Status). IfSome old.content (λ c. Leaves (edited_from s t cs output) status c new.content)) (sym (is ∙ ap status_with count))
      (all_filed (status_with (refused_count cs s)) (texts_of cs s) output (file_after s t cs) old.content mid.content new.content a
      (b ∙ ap (λ (x : List ℕ). option_map (filed output x) mid.content) file_is)))

  -- the writing of the file was stopped
  pub edit_unfiled : {old mid new : Seen} (refused : ℕ) (stop : Stop) → Writes {T = ℕ} (Ok refused) (SaysAs {T = ℕ} (Ok refused) (texts_of cs s)) old mid
      → Writes {T = Unit {0}} (Err stop) (FilesAll (Err stop) output file) mid new
      → Writes {T = Ending} (Err stop) (Tells (edited_from s t cs output) (Err stop)) old new
  edit_unfiled {old = old} {mid = mid} {new = new} refused stop said wrote =
      let both : Writes {T = Unit {0}} (Err stop) (λ a b. IfSome a (λ c. Stops (edited_from s t cs output) c b)) old new =
      then_so refused (Err stop) said wrote (λ a b.
      stopped_filing (status_with (refused_count cs s)) (texts_of cs s) output (file_after s t cs) stop old.content mid.content new.content a
      (subst (λ (x : List ℕ). FilesAll (Err stop) output x mid.content new.content) file_is b)) in
      stopped_so stop both (λ stops. stops)

-- the commands were stopped
pub edit_unsaid : (s : State) (t : List ℕ) (cs : List Step) (output : List ℕ) {old new : Seen} (stop : Stop)
    → Writes {T = ℕ} (Err stop) (SaysAs {T = ℕ} (Err stop) (texts_of cs s)) old new
    → Writes {T = Ending} (Err stop) (Tells (edited_from s t cs output) (Err stop)) old new
edit_unsaid s t cs output {old = old} {new = new} stop said =
    stopped_so stop said (stopped_saying (status_with (refused_count cs s)) (texts_of cs s) output (file_after s t cs) old.content new.content)
