-- What a run leaves of the desk below one that holds back what is said, once that is flushed: what it leaves of a desk.
use Rattle.std.proofs.Common.{◌≡◌, ℕ, ◌≤◌, List, [], ◌∷◌, ◌++◌, Bool, true, false, Option, Some, None, Result, Ok, Err, inl, inr, refl, sym, ap, subst, ◌∙◌}
use Rattle.std.proofs.Common.{append_assoc, arith}
use Rattle.std.specs.Prelude.{IfOk, IfErr, IfSome, ◌⊎◌, if◌then◌else◌}
use Rattle.std.proofs.lemmas.List.{append-nil, append_cancel_left}
use Rattle.dgn_desk.specs.declared.stop.Stop.{Stop}
use Rattle.dgn_desk.specs.declared.stop.Stop.TheVariants as stops
use Rattle.dgn_desk.specs.Content.{Content, Files, all_said, spoken, OnlyLeftDiffers}
use Rattle.dgn_desk.specs.Desk.{Rose, StaysWilling}
use Rattle.dgn_desk.specs.Holding.{with_held}
use Rattle.dgn_desk.specs.Seen.{Seen, Writes}
use Rattle.dgn_tool.specs.Ended.{Outcome}
use Rattle.dgn_tool.specs.Leaving.{Leaves, Stops, HoldsFront, InOrder, IsBegun, files_after, said_before_file, settled_after}
use Rattle.dgn_tool.specs.Request.{Request}
use Rattle.dgn_tool.specs.Status.{number_of}
use Rattle.dgn_tool.specs.declared.status.Status.{Status}
use Rattle.dgn_tool.specs.declared.status.Status.TheVariants as statuses
use Rattle.dgn_tool.proofs.ToldContents.{where_told, said_behind, stopped_early}
use Rattle.dgn_tool.specs.Outcome.{outcome_of, StoppedAs}
use Rattle.dgn_tool.specs.EditedRuns.{EditsAsAsked}
use Rattle.dgn_tool.specs.Runs.{Runs, Concludes, IsSettled, flushed_status}

-- A run that came to its ending had come to all of its outcome.

whole_file : (file : Option (List ℕ × List ℕ)) (old now : Files) → now ≡ files_after file old → HoldsFront file old now
whole_file None old now is = is
whole_file (Some f) old now is = inr (f.1, ([], sym (append-nil f.1)), is)

all_in_order : (first : Bool) (text : List ℕ) (file : Option (List ℕ × List ℕ)) (old now : Files) → now ≡ files_after file old
    → InOrder first text text file old now
all_in_order true text file old now is = inl refl
all_in_order false text file old now is = inr is

all_begun : (o : Outcome) (file : Option (List ℕ × List ℕ)) (old now : Content) → now.settled ≡ settled_after o file old → IsBegun o file old now
all_begun o None old now is = is
all_begun o (Some f) old now is = inr is

ended_stops : (o : Outcome) (status : Status) (c : Content) (now : Option Content) → Leaves o status c now → Stops o c now
ended_stops o status c now l = record {
  content = l.content;
  told_is = l.told_is;
  front = o.text;
  is_front = ([], sym (append-nil o.text));
  said_is = l.said_is;
  files_are = whole_file o.file c.files l.content.files l.files_are;
  in_order = all_in_order o.says_first o.text o.file c.files l.content.files l.files_are;
  begun_is = all_begun o o.file c l.content l.settled_is;
}

all_stop : (o : Files → Outcome) (status : Status) (old now : Option Content) → IfSome old (λ c. Leaves (o c.files) status c now)
    → IfSome old (λ c. Stops (o c.files) c now)
all_stop o status None now leaves = tt
all_stop o status (Some c) now leaves = ended_stops (o c.files) status c now leaves

-- however a run ended, it had come to a front of its outcome
came_to : (request : Option Request) (old now : Seen) (status : Status) → Runs request old now status
    → IfSome old.content (λ c. Stops (outcome_of request c.files) c now.content)
came_to request old now statuses.ReadFault run =
    where_told (λ c. (o : Outcome) → Stops o c now.content) (λ c. Stops (outcome_of request c.files) c now.content) old.content
    (stopped_early old.content now.content (run.concludes.read_fault refl).2) (λ c stops. stops (outcome_of request c.files))
came_to request old now statuses.WriteFault run = run.prefix tt
came_to request old now statuses.Memory run = run.prefix tt
came_to request old now other run = all_stop (outcome_of request) other old.content now.content (run.concludes.outcome tt)

-- What was said without what is held back yet.

-- nothing stands behind a list that is as long
nothing_behind : (xs ys : List ℕ) → xs ≡ xs ++ ys → ys ≡ []
nothing_behind xs ys e = append_cancel_left xs ys [] (sym e ∙ sym (append-nil xs))

-- a list that is empty has no parts
no_front : (xs ys : List ℕ) → xs ++ ys ≡ [] → xs ≡ []
no_front [] ys e = refl
no_front (x ∷ xs) ys e = absurd (let f = e in cc)

begun_held : (o : Outcome) (file : Option (List ℕ × List ℕ)) (c b : Content) (held : List ℕ) → IsBegun o file c (spoken held b) → IsBegun o file c b
begun_held o None c b held is = is
begun_held o (Some f) c b held is = is

-- what was said by then stands behind what was said before the run: where a file was begun, at least what is said before it
record Reached (o : Outcome) (c b : Content) : Type 0 where
  front : List ℕ
  said_is : all_said b ≡ all_said c ++ front
  since_file : (b.files ≡ c.files) ⊎ ((more : List ℕ) × (front ≡ said_before_file o ++ more))

unbegun : (o : Outcome) (c b : Content) → b.files ≡ c.files → b.settled ≡ c.settled → c.since ≡ [] → Reached o c b
unbegun o c b files same settled =
    let all : all_said c ≡ c.settled = ap (λ t. c.settled ++ t) settled ∙ append-nil c.settled in
    record { front = b.since; said_is = ap (λ t. t ++ b.since) (same ∙ sym all); since_file = inl files }

reached : (o : Outcome) (file : Option (List ℕ × List ℕ)) (c b : Content) → IsBegun o file c b → HoldsFront file c.files b.files → c.since ≡ []
    → Reached o c b
reached o None c b begun holds settled = unbegun o c b holds begun settled
reached o (Some f) c b (inl same) holds settled = unbegun o c b same.0 same.1 settled
reached o (Some f) c b (inr begun) holds settled = record {
  front = said_before_file o ++ b.since;
  said_is = ap (λ t. t ++ b.since) begun ∙ append_assoc (all_said c) (said_before_file o) b.since;
  since_file = inr (b.since, refl);
}

-- where all of the text is said before the file, a front of it that has it all is it
whole_text : (text front more rest : List ℕ) → front ≡ text ++ more → text ≡ front ++ rest → front ≡ text
whole_text text front more rest is front_of =
    let both : text ≡ text ++ (more ++ rest) = front_of ∙ ap (λ t. t ++ rest) is ∙ append_assoc text more rest in
    let none : more ≡ [] = no_front more rest (nothing_behind text (more ++ rest) both) in
    is ∙ ap (λ t. text ++ t) none ∙ append-nil text

-- what was said without what is held back came in the same order
order_below : (first : Bool) (text front whole held rest : List ℕ) (file : Option (List ℕ × List ℕ)) (old now : Files)
    → InOrder first text whole file old now → front ++ held ≡ whole → text ≡ front ++ rest
    → ((now ≡ old) ⊎ ((more : List ℕ) × (front ≡ (if first then text else []) ++ more))) → InOrder first text front file old now
order_below true text front whole held rest file old now (inr same) joined front_of since = inr same
order_below true text front whole held rest file old now (inl all) joined front_of (inl same) = inr same
order_below true text front whole held rest file old now (inl all) joined front_of (inr more) = inl (whole_text text front more.0 rest more.1 front_of)
order_below false text front whole held rest file old now (inl none) joined front_of since = inl (no_front front held (joined ∙ none))
order_below false text front whole held rest file old now (inr is) joined front_of since = inr is

-- what was said below and what is held back are what was said
joined_front : (before front held whole said : List ℕ) → said ≡ before ++ front → said ++ held ≡ before ++ whole → front ++ held ≡ whole
joined_front before front held whole said is both =
    append_cancel_left before (front ++ held) whole (sym (append_assoc before front held) ∙ ap (λ t. t ++ held) (sym is) ∙ both)

front_of_front : (text front held whole rest : List ℕ) → front ++ held ≡ whole → text ≡ whole ++ rest → text ≡ front ++ (held ++ rest)
front_of_front text front held whole rest joined is = is ∙ ap (λ t. t ++ rest) (sym joined) ∙ append_assoc front held rest

stops_below : (o : Outcome) (c b : Content) (held : List ℕ) → c.since ≡ [] → Stops o c (Some (spoken held b)) → Stops o c (Some b)
stops_below o c b held settled s =
    let is : s.content ≡ spoken held b = (let e = s.told_is in cc) in
    let files : HoldsFront o.file c.files b.files = subst (λ (x : Content). HoldsFront o.file c.files x.files) is s.files_are in
    let begun : IsBegun o o.file c b = begun_held o o.file c b held (subst (λ (x : Content). IsBegun o o.file c x) is s.begun_is) in
    let r : Reached o c b = reached o o.file c b begun files settled in
    let said : all_said (spoken held b) ≡ all_said c ++ s.front = subst (λ (x : Content). all_said x ≡ all_said c ++ s.front) is s.said_is in
    let joined : r.front ++ held ≡ s.front =
    joined_front (all_said c) r.front held s.front (all_said b) r.said_is (sym (said_behind held b) ∙ said) in
    let front_of : o.text ≡ r.front ++ (held ++ s.is_front.0) = front_of_front o.text r.front held s.front s.is_front.0 joined s.is_front.1 in
    record {
      content = b;
      told_is = refl;
      front = r.front;
      is_front = (held ++ s.is_front.0, front_of);
      said_is = r.said_is;
      files_are = files;
      in_order = order_below o.says_first o.text r.front s.front held (held ++ s.is_front.0) o.file c.files b.files
          (subst (λ (x : Content). InOrder o.says_first o.text s.front o.file c.files x.files) is s.in_order) joined front_of r.since_file;
      begun_is = begun;
    }

held_below : (o : Files → Outcome) (held : List ℕ) (old below now : Option Content) → now ≡ with_held held below → IsSettled old
    → IfSome old (λ c. Stops (o c.files) c now) → IfSome old (λ c. Stops (o c.files) c below)
held_below o held None below now is settled stops = tt
held_below o held (Some c) None now is settled stops = absurd (let e = sym is ∙ stops.told_is in cc)
held_below o held (Some c) (Some b) now is settled stops = stops_below (o c.files) c b held settled (subst (λ n. Stops (o c.files) c n) is stops)

-- What follows from what holds of a value, or of an error.

ok_so : {T E : Type 0} {P Q : T → Type 0} (given : Result T E) → ((x : T) → P x → Q x) → IfOk given P → IfOk given Q
ok_so (Ok x) so holds = so x holds
ok_so (Err e) so holds = tt

err_so : {T E : Type 0} {P Q : E → Type 0} (given : Result T E) → ((e : E) → P e → Q e) → IfErr given P → IfErr given Q
err_so (Ok x) so holds = tt
err_so (Err e) so holds = so e holds

-- The whole run.

-- a run that left the same of another desk
as_seen : (request : Option Request) (old run new : Seen) (status : Status) → new.content ≡ run.content → new.read_faults ≡ run.read_faults
    → new.write_faults ≡ run.write_faults → StaysWilling run.willing new.willing → Concludes request old run status → Concludes request old new status
as_seen request old run new status content reads writes stays r = record {
  outcome = λ ending. subst (λ k. IfSome old.content (λ c. Leaves (outcome_of request c.files) status c k)) (sym content) (r.outcome ending);
  counted = λ ending. (reads ∙ (r.counted ending).0, writes ∙ (r.counted ending).1);
  usage = r.usage;
  improper = r.improper;
  read_fault = λ is. let f = r.read_fault is in (
    f.0,
    subst (λ n. Rose old.read_faults n) (sym reads) f.1,
    subst (λ k. OnlyLeftDiffers old.content k) (sym content) f.2,
  );
  write_fault = λ is. subst (λ n. Rose old.write_faults n) (sym writes) (r.write_fault is);
  complete = λ unread unwritten. r.complete (λ rose. unread (subst (λ n. Rose old.read_faults n) (sym reads) rose))
      (λ rose. unwritten (subst (λ n. Rose old.write_faults n) (sym writes) rose));
  complete_willing = r.complete_willing;
  bytes = r.bytes;
  found = r.found;
  never_fewer = subst (λ n. old.write_faults ≤ n) (sym writes) r.never_fewer;
  stays_willing = λ willing. stays (r.stays_willing willing);
  as_asked = subst (EditsAsAsked request status old.content) (sym content) r.as_asked;
}

-- where nothing is held back, what is told is what is told below
unheld : (held : List ℕ) (c : Option Content) → held ≡ [] → with_held held c ≡ c
unheld held None none = refl
unheld held (Some c) none = ap (λ t. Some (record c { since = t })) (ap (λ h. c.since ++ h) none ∙ append-nil c.since)

rose_since : (before mid now : ℕ) → before ≤ mid → Rose mid now → Rose before now
rose_since before mid now le rose = omega (arith, rose)

-- a run over a desk that holds back what is said, and then the flush of that, concludes as a run over the desk below
flushed_run : (request : Option Request) (old run new : Seen) (held : List ℕ) (flush : Result (Unit {0}) Stop) (ended : Status)
    → Concludes request old run ended
    → Writes flush (λ told now. now ≡ told) run (record new { content = with_held held new.content })
    → IfOk flush (λ _. held ≡ []) → Concludes request old new (flushed_status flush ended)
flushed_run request old run new held (Ok x) ended r w none =
    as_seen request old run new ended (sym (unheld held new.content none) ∙ w.changes) w.other w.cause w.stays_willing r
flushed_run request old run new held (Err stops.Failed) ended r w none =
    let rose : Rose old.write_faults new.write_faults = rose_since old.write_faults run.write_faults new.write_faults r.never_fewer w.cause.1 in
    record {
      outcome = λ ending. absurd ending;
      counted = λ ending. absurd ending;
      usage = λ is. absurd (let x = is in cc);
      improper = λ _ ending. absurd ending;
      read_fault = λ is. absurd (let x = is in cc);
      write_fault = λ _. rose;
      complete = λ _ unwritten. absurd (unwritten rose);
      complete_willing = λ willing _. absurd (w.never_fails (r.stays_willing willing));
      bytes = λ ending. absurd ending;
      found = λ ending. absurd ending;
      never_fewer = let first = r.never_fewer in let second = w.cause.0 in omega arith;
      stays_willing = λ willing. w.stays_willing (r.stays_willing willing);
      as_asked = λ input script output asked written. absurd written;
    }
flushed_run request old run new held (Err stops.Memory) ended r w none = record {
  outcome = λ ending. absurd ending;
  counted = λ ending. absurd ending;
  usage = λ is. absurd (let x = is in cc);
  improper = λ _ ending. absurd ending;
  read_fault = λ is. absurd (let x = is in cc);
  write_fault = λ is. absurd (let x = is in cc);
  complete = λ _ _. tt;
  complete_willing = λ _ _. tt;
  bytes = λ ending. absurd ending;
  found = λ ending. absurd ending;
  never_fewer = let first = r.never_fewer in let second = w.cause in omega arith;
  stays_willing = λ willing. w.stays_willing (r.stays_willing willing);
  as_asked = λ input script output asked written. absurd written;
}

-- and where it was stopped, it stopped as a run over the desk below, if nothing had been said since the last file was begun
flushed_stops : (request : Option Request) (old run new : Seen) (held : List ℕ) (flush : Result (Unit {0}) Stop) (ended : Status)
    → Runs request old run ended
    → Writes flush (λ told now. now ≡ told) run (record new { content = with_held held new.content })
    → IfOk flush (λ _. held ≡ []) → IsSettled old.content → StoppedAs (flushed_status flush ended) (outcome_of request) old.content new.content
flushed_stops request old run new held (Ok x) ended r w none settled =
    subst (StoppedAs ended (outcome_of request) old.content) (sym w.changes ∙ unheld held new.content none) r.prefix
flushed_stops request old run new held (Err stops.Failed) ended r w none settled =
    λ _. held_below (outcome_of request) held old.content new.content run.content (sym w.changes) settled (came_to request old run ended r)
flushed_stops request old run new held (Err stops.Memory) ended r w none settled =
    λ _. held_below (outcome_of request) held old.content new.content run.content (sym w.changes) settled (came_to request old run ended r)

-- what the flush left, by the desk below
record Flushed (run told new : Seen) (held : List ℕ) (ended status : Status) : Type 0 where
  flush : Result (Unit {0}) Stop
  writes : Writes flush (λ was now. now ≡ was) run told
  handed : IfOk flush (λ _. held ≡ [])
  status_is : status ≡ flushed_status flush ended
  told_is : told ≡ record new { content = with_held held new.content }

-- the number and the status of a run with this request that left this of the desk, and what a stop left
abbrev Exits : Option Request → Seen → Seen → ℕ → Type 0
Exits request old new number = (status : Status) × (number ≡ number_of status) × Concludes request old new status

abbrev StopsSo : Option Request → Seen → Seen → ℕ → Type 0
StopsSo request old new number = (status : Status) × (number ≡ number_of status) × StoppedAs status (outcome_of request) old.content new.content

module _ (request : Option Request) {started old run told new last : Seen} {held : List ℕ} {ended status : Status} {number : ℕ} (begun : started ≡ old)
    (left : last ≡ new) (f : Flushed run told new held ended status) (numbered : number ≡ number_of status) (r : Runs request started run ended) where
  own : Runs request old run ended
  own = subst (λ s. Runs request s run ended) begun r

  writes : Writes f.flush (λ was now. now ≡ was) run (record new { content = with_held held new.content })
  writes = subst (λ t. Writes f.flush (λ was now. now ≡ was) run t) f.told_is f.writes

  exits : Exits request old last number
  exits =
      let ran : Concludes request old new (flushed_status f.flush ended) =
      flushed_run request old run new held f.flush ended own.concludes writes f.handed in
      (status, numbered, subst (λ s. Concludes request old s status) (sym left) (subst (Concludes request old new) (sym f.status_is) ran))

  stops_so : IsSettled old.content → StopsSo request old last number
  stops_so settled =
      let stopped : StoppedAs (flushed_status f.flush ended) (outcome_of request) old.content new.content =
      flushed_stops request old run new held f.flush ended own writes f.handed settled in (
        status,
        numbered,
        subst (λ (s : Seen). StoppedAs status (outcome_of request) old.content s.content) (sym left)
            (subst (λ (s : Status). StoppedAs s (outcome_of request) old.content new.content) (sym f.status_is) stopped),
      )

-- the same of words that were given, and of an error in their place

module _ {T E : Type 0} (given : Result T E) {started old run told new last : Seen} {held : List ℕ} {ended status : Status} {number : ℕ}
    (begun : started ≡ old) (left : last ≡ new)
    (w : (flush : Result (Unit {0}) Stop) × Writes flush (λ was now. now ≡ was) run told × IfOk flush (λ _. held ≡ [])
    × (status ≡ flushed_status flush ended))
    (is : told ≡ record new { content = with_held held new.content }) (numbered : number ≡ number_of status) where
  flushed : Flushed run told new held ended status
  flushed = record { flush = w.0; writes = w.1; handed = w.2; status_is = w.3; told_is = is }

  pub ok_exits : (asks : T → Option Request) → IfOk given (λ x. Runs (asks x) started run ended) → IfOk given (λ x. Exits (asks x) old last number)
  ok_exits asks ran = ok_so given (λ x r. exits (asks x) begun left flushed numbered r) ran

  pub ok_stops : (asks : T → Option Request) → IfOk given (λ x. Runs (asks x) started run ended)
      → IfOk given (λ x. IsSettled old.content → StopsSo (asks x) old last number)
  ok_stops asks ran = ok_so given (λ x r. stops_so (asks x) begun left flushed numbered r) ran

  pub err_exits : (P : E → Type 0) (request : Option Request) → IfErr given (λ e. P e → Runs request started run ended)
      → IfErr given (λ e. P e → Exits request old last number)
  err_exits P request ran = err_so given (λ e so such. exits request begun left flushed numbered (so such)) ran

  pub err_stops : (P : E → Type 0) (request : Option Request) → IfErr given (λ e. P e → Runs request started run ended)
      → IfErr given (λ e. P e → IsSettled old.content → StopsSo request old last number)
  err_stops P request ran = err_so given (λ e so such. stops_so request begun left flushed numbered (so such)) ran
