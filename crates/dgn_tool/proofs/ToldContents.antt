-- What is told over a part of a run: by its ending, by a stop, and that reading before it changes nothing there.
use Rattle.std.proofs.Common.{◌≡◌, List, [], ◌++◌, append_assoc, ℕ, take, drop, inl, inr, true, false, Bool, Option, Some, None, Err, refl, sym, ap, ◌∙◌}
use Rattle.std.specs.Prelude.{option_map, IfSome}
use Rattle.std.proofs.lemmas.List.{append-nil, take-append-drop}
use Rattle.dgn_desk.specs.Desk.{SaysAll}
use Rattle.dgn_desk.specs.declared.stop.Stop.{Stop}
use Rattle.dgn_desk.specs.Content.{Content, Files, all_said, spoken, with_left, OnlyLeftDiffers}
use Rattle.dgn_tool.specs.Ended.{Outcome, ended}
use Rattle.dgn_tool.specs.Leaving.{Leaves, Stops, IsFrontOf, HoldsFront, InOrder, IsBegun, settled_after}
use Rattle.dgn_tool.specs.declared.status.Status.{Status}

-- so many first bytes are a front
pub is_taken : (bytes : List ℕ) (count : ℕ) → IsFrontOf bytes (take count bytes)
is_taken bytes count = (drop count bytes, sym (take-append-drop count bytes))

-- what holds where the content is told
pub where_told : (P Q : Content → Type 0) (old : Option Content) → IfSome old P → ((c : Content) → P c → Q c) → IfSome old Q
where_told P Q None known so = tt
where_told P Q (Some c) known so = so c known

-- and what holds of each
pub where_all : (P : Content → Type 0) (old : Option Content) → ((c : Content) → P c) → IfSome old P
where_all P None so = tt
where_all P (Some c) so = so c

-- of the file that is to be written nothing was written
unbegun : (file : Option (List ℕ × List ℕ)) (files : Files) → HoldsFront file files files
unbegun None files = refl
unbegun (Some file) files = inl refl

-- where no file was begun
unsettled : (o : Outcome) (file : Option (List ℕ × List ℕ)) (now c : Content) → now.files ≡ c.files → now.settled ≡ c.settled → IsBegun o file c now
unsettled o None now c files same = same
unsettled o (Some f) now c files same = inl (files, same)

-- where nothing was said and nothing written, that is in either order
in_either : (says_first : Bool) (text : List ℕ) (file : Option (List ℕ × List ℕ)) (files : Files) → InOrder says_first text [] file files files
in_either true text file files = inr refl
in_either false text file files = inl refl

-- a run that stopped before it said or wrote anything, whatever it would have come to
pub stopped_early : (old now : Option Content) → OnlyLeftDiffers old now → IfSome old (λ c. (o : Outcome) → Stops o c now)
stopped_early None now only = tt
stopped_early (Some c) now only = λ o.
    record {
      content = with_left only.0 c;
      told_is = only.1;
      front = [];
      is_front = (o.text, refl);
      said_is = sym (append-nil (all_said c));
      files_are = unbegun o.file c.files;
      in_order = in_either o.says_first o.text o.file c.files;
      begun_is = unsettled o o.file (with_left only.0 c) c refl refl;
    }

-- where nothing was done, only what is left differs
pub nothing_done : (old : Option Content) → OnlyLeftDiffers old old
nothing_done None = ([], refl)
nothing_done (Some c) = (c.left, refl)

-- reading twice is reading
pub read_twice : (old mid now : Option Content) → OnlyLeftDiffers old mid → OnlyLeftDiffers mid now → OnlyLeftDiffers old now
read_twice None mid now first second = (second.0, second.1 ∙ ap (option_map (with_left second.0)) first.1)
read_twice (Some c) mid now first second = (second.0, second.1 ∙ ap (option_map (with_left second.0)) first.1)

-- what is said stands behind all that was said
pub said_behind : (text : List ℕ) (c : Content) → all_said (spoken text c) ≡ all_said c ++ text
said_behind text c = sym (append_assoc c.settled c.since text)

-- a line that ends a run was said
pub line_said : (status : Status) (line : List ℕ) (old now : Option Content) → now ≡ option_map (spoken line) old
    → IfSome old (λ c. Leaves (ended status line) status c now)
line_said status line None now e = tt
line_said status line (Some c) now e =
    record {
      status_is = refl;
      content = spoken line c;
      told_is = e;
      said_is = said_behind line c;
      files_are = refl;
      settled_is = refl;
    }

-- or a front of it was
pub line_stopped : (status : Status) (line : List ℕ) (stop : Stop) (old now : Option Content) → SaysAll (Err stop) line old now
    → IfSome old (λ c. Stops (ended status line) c now)
line_stopped status line stop None now said = tt
line_stopped status line stop (Some c) now said =
    record {
      content = spoken (take said.0 line) c;
      told_is = said.2;
      front = take said.0 line;
      is_front = is_taken line said.0;
      said_is = said_behind (take said.0 line) c;
      files_are = refl;
      in_order = inr refl;
      begun_is = refl;
    }

-- what was said before a file doesn't hang on what is left to read
settled_read : (o : Outcome) (file : Option (List ℕ × List ℕ)) (left : List ℕ) (c : Content)
    → settled_after o file (with_left left c) ≡ settled_after o file c
settled_read o None left c = refl
settled_read o (Some f) left c = refl

-- nor when a file was begun
begun_read : (o : Outcome) (file : Option (List ℕ × List ℕ)) (left : List ℕ) (c now : Content) → IsBegun o file (with_left left c) now → IsBegun o file c now
begun_read o None left c now begun = begun
begun_read o (Some f) left c now begun = begun

-- reading first changes nothing that an ending speaks of
pub leaves_read : (o : Outcome) (status : Status) (left : List ℕ) (c : Content) (now : Option Content) → Leaves o status (with_left left c) now
    → Leaves o status c now
leaves_read o status left c now l = record {
  status_is = l.status_is;
  content = l.content;
  told_is = l.told_is;
  said_is = l.said_is;
  files_are = l.files_are;
  settled_is = l.settled_is ∙ settled_read o o.file left c;
}

-- nor that a stop speaks of
pub stops_read : (o : Outcome) (left : List ℕ) (c : Content) (now : Option Content) → Stops o (with_left left c) now → Stops o c now
stops_read o left c now s = record {
  content = s.content;
  told_is = s.told_is;
  front = s.front;
  is_front = s.is_front;
  said_is = s.said_is;
  files_are = s.files_are;
  in_order = s.in_order;
  begun_is = begun_read o o.file left c s.content s.begun_is;
}
