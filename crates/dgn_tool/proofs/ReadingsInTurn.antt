-- Parts of a run that read, one after the other: what they leave of a desk together, by what the whole reads.
use Rattle.std.proofs.Common.{◌≡◌, Bool, List, [], ◌∷◌, ◌++◌, Option, Some, None, Result, Ok, Err, refl, sym, ap, ◌∙◌, subst, append_assoc}
use Rattle.std.specs.Prelude.{IfSome}
use Rattle.std.specs.List.{AllByRecursion}
use Rattle.dgn_desk.specs.declared.stop.Stop.{Stop}
use Rattle.dgn_desk.specs.declared.stop.Stop.TheVariants as stops
use Rattle.dgn_desk.specs.Content.{Content, Files, OnlyLeftDiffers}
use Rattle.dgn_desk.specs.Desk.{Rose, Counts}
use Rattle.dgn_desk.specs.Seen.{Seen, OnlyReads, Writes}
use Rattle.dgn_desk.proofs.InTurn.{done_so, stopped_so}
use Rattle.dgn_tool.specs.Ended.{Outcome}
use Rattle.dgn_tool.specs.Leaving.{Stops}
use Rattle.dgn_tool.specs.Ends.{status_said, Tells, end_of, IsRead, EndsThere, ComesTo}
use Rattle.dgn_tool.specs.Readings.{Source, Reading, at_once, behind_sources, ◌>>=◌, ending_of, MayComeTo, IsThere, IsGiven, AreThere, AreGiven}
use Rattle.dgn_tool.specs.declared.ending.Ending.{Ending}
use Rattle.dgn_tool.specs.declared.end.End.{End}
use Rattle.dgn_tool.specs.declared.end.End.TheVariants as ends
use Rattle.dgn_tool.proofs.ToldContents.{where_told, where_all, stopped_early, nothing_done, read_twice, leaves_read, stops_read}

-- Lists, one behind the other.

pub all_parts : {X : Type 0} (P : X → Type 0) (xs ys : List X) → AllByRecursion P (xs ++ ys) → AllByRecursion P xs × AllByRecursion P ys
all_parts P [] ys all = (tt, all)
all_parts P (x ∷ xs) ys all =
    let parts = all_parts P xs ys all.1 in
    ((all.0, parts.0), parts.1)

pub all_both : {X : Type 0} (P : X → Type 0) (xs ys : List X) → AllByRecursion P xs → AllByRecursion P ys → AllByRecursion P (xs ++ ys)
all_both P [] ys front back = back
all_both P (x ∷ xs) ys front back = (front.0, all_both P xs ys front.1 back)

-- Readings.

module _ {A B : Type 0} (next : A → Reading B) where
  -- the first part gave a value
  pub on_value : (first : Reading A) (x : A) → first.answer ≡ Ok x
      → (first >>= next) ≡ record { sources = first.sources ++ (next x).sources; answer = (next x).answer }
  on_value first x is = ap (λ (r : Result A Outcome). behind_sources first.sources r next) is

  -- or it ended the run
  pub on_end : (first : Reading A) (o : Outcome) → first.answer ≡ Err o → (first >>= next) ≡ record { sources = first.sources; answer = Err o }
  on_end first o is = ap (λ (r : Result A Outcome). behind_sources first.sources r next) is

  -- what holds of all that the whole reads holds of what the first part reads
  pub first_all : (P : Source → Type 0) (before : List Source) (r : Result A Outcome) → AllByRecursion P (behind_sources before r next).sources
      → AllByRecursion P before
  first_all P before (Ok x) all = (all_parts P before (next x).sources all).0
  first_all P before (Err o) all = all

  -- what the run may come to by the whole, it may come to by the first part
  pub first_may : (before : List Source) (r : Result A Outcome) (o : Outcome) → MayComeTo (behind_sources before r next).answer o → MayComeTo r o
  first_may before (Ok x) o may = tt
  first_may before (Err end) o may = may

-- reading on twice
pub reads_on : {A B C : Type 0} (before : List Source) (r : Result A Outcome) (next : A → Reading B) (last : B → Reading C)
    → (behind_sources before r next >>= last) ≡ behind_sources before r (λ x. next x >>= last)
reads_on {A} {B} {C} before (Err o) next last = refl
reads_on {A} {B} {C} before (Ok x) next last = by (next x).answer
  where
    by : (r : Result B Outcome) → behind_sources (before ++ (next x).sources) r last
        ≡ record { sources = before ++ (behind_sources (next x).sources r last).sources; answer = (behind_sources (next x).sources r last).answer }
    by (Ok y) =
        ap (λ (ss : List Source). record { sources = ss; answer = (last y).answer }) (append_assoc before (next x).sources (last y).sources)
    by (Err o) = refl

-- reading on as another does
pub read_alike : {A B : Type 0} (before : List Source) (r : Result A Outcome) (next other : A → Reading B) → ((x : A) → next x ≡ other x)
    → behind_sources before r next ≡ behind_sources before r other
read_alike before (Ok x) next other same = ap (λ y. record { sources = before ++ y.sources; answer = y.answer }) (same x)
read_alike before (Err o) next other same = refl

-- a reading that goes on ends the run as what it goes on to does
ends_on : {A : Type 0} (before : List Source) (r : Result A Outcome) (next : A → Reading Outcome)
    → ending_of (behind_sources before r next) ≡ behind_sources before r (λ x. ending_of (next x))
ends_on before (Ok x) next = refl
ends_on before (Err o) next = refl

-- What is left of a desk.

-- nothing was read yet
pub nothing_read : (old : Seen) → OnlyReads old old
nothing_read old = record { changes = nothing_done old.content; calm = refl; quiet = refl; stays_willing = λ willing. willing; as_strict = refl }

-- reading twice is reading
reads_twice : {old mid new : Seen} → OnlyReads old mid → OnlyReads mid new → OnlyReads old new
reads_twice {old = old} {mid = mid} {new = new} first second = record {
  changes = read_twice old.content mid.content new.content first.changes second.changes;
  calm = second.calm ∙ first.calm;
  quiet = second.quiet ∙ first.quiet;
  stays_willing = λ willing. second.stays_willing (first.stays_willing willing);
  as_strict = second.as_strict ∙ first.as_strict;
}

-- a value for which nothing is read
pub gives : {T : Type 0} (value : T) (old : Seen) → IsRead (λ _. at_once (Ok value)) value old old
gives {T} value old =
    let given : Result T Outcome = Ok value in
    record { reads = nothing_read old; gives = where_all (λ c. (given ≡ given) × AreGiven old.strict c.files []) old.content (λ c. (refl, tt)) }

-- there was no memory for more than was read
pub wants_more : {T : Type 0} (reading : Files → Reading T) (old new : Seen) → OnlyReads old new
    → ComesTo reading (Err (ends.Stopped stops.Memory)) old new
wants_more reading old new reads = record {
  cause = reads.quiet;
  other = reads.calm;
  changes = where_told (λ c. (o : Outcome) → Stops o c new.content) (λ c. (o : Outcome) → MayComeTo (reading c.files).answer o → Stops o c new.content)
      old.content (stopped_early old.content new.content reads.changes) (λ c stops o may. stops o);
  stays_willing = reads.stays_willing;
  never_fails = λ _. tt;
}

-- a part that reads nothing came to its outcome
comes_at_once : (T : Type 0) (o : Outcome) (r : Result Ending Stop) (old new : Seen) → Writes r (Tells o r) old new
    → ComesTo {T = T} (λ _. at_once (Err o)) (Err (end_of r)) old new
comes_at_once T o (Ok ending) old new comes =
    done_so ending ending comes (λ tells. where_told _ (λ c. EndsThere {T = T} old.strict (at_once (Err o)) ending c new.content) old.content tells
    (λ c leaves. record { outcome = o; answer_is = refl; leaves = leaves; given = tt }))
comes_at_once T o (Err stop) old new comes =
    stopped_so stop comes (λ tells. where_told (λ c. Stops o c new.content) (λ c. (q : Outcome) → o ≡ q → Stops q c new.content) old.content tells
    (λ c stops q is. subst (λ (x : Outcome). Stops x c new.content) is stops))

-- Behind what was read.

-- what is told behind what was read, by what was told before it
through : (P Q R : Content → Type 0) (old mid : Option Content) → OnlyLeftDiffers old mid → IfSome old P → IfSome mid Q
    → ((c : Content) (left : List _) → P c → Q (record c { left = left }) → R c) → IfSome old R
through P Q R None mid only before behind so = tt
through P Q R (Some c) mid only before behind so =
    let here : Q (record c { left = only.0 }) = rw only.1 at behind in
    so c only.0 before here

-- what is known of the files then
onto : (P S Q : Files → Type 0) (old mid : Option Content) → OnlyLeftDiffers old mid → IfSome old (λ c. P c.files) → IfSome old (λ c. S c.files)
    → ((files : Files) → P files → S files → Q files) → IfSome mid (λ c. Q c.files)
onto P S Q None mid only known also so = rw only.1 tt
onto P S Q (Some c) mid only known also so = rw only.1 (so c.files known also)

-- the whole reads what this part of it reads, and ends the run where it does
record Covers {T U : Type 0} (strict : Bool) (files : Files) (whole : Reading T) (part : Reading U) : Type 0 where
  there : AreThere files whole.sources → AreThere files part.sources
  may : (o : Outcome) → MayComeTo whole.answer o → MayComeTo part.answer o
  ended : (o : Outcome) → part.answer ≡ Err o → AreGiven strict files part.sources → (whole.answer ≡ Err o) × AreGiven strict files whole.sources

-- so where the part ended the run behind what was read, the whole did
covers : {T U : Type 0} (whole : Files → Reading T) (part : Files → Reading U) (end : End) (old mid new : Seen) → OnlyReads old mid
    → IfSome old.content (λ c. Covers old.strict c.files (whole c.files) (part c.files)) → ComesTo part (Err end) mid new → ComesTo whole (Err end) old new
covers whole part (ends.Said ending) old mid new reads covered comes = record {
  cause = comes.cause ∙ reads.quiet;
  other = comes.other ∙ reads.calm;
  changes = through _ _ (λ c. EndsThere old.strict (whole c.files) ending c new.content) old.content mid.content reads.changes covered comes.changes
      (λ c left by so.
      let is = by.ended so.outcome so.answer_is (subst (λ (s : Bool). AreGiven s c.files (part c.files).sources) reads.as_strict so.given) in
      record {
        outcome = so.outcome;
        answer_is = is.0;
        leaves = leaves_read so.outcome (status_said ending) left c new.content so.leaves;
        given = is.1;
      });
  stays_willing = λ willing. comes.stays_willing (reads.stays_willing willing);
  never_fails = λ _. tt;
}
covers whole part ends.ReadFault old mid new reads covered comes = record {
  rose = subst (λ n. Rose n new.read_faults) reads.calm comes.rose;
  quiet = comes.quiet ∙ reads.quiet;
  stays_willing = λ willing. comes.stays_willing (reads.stays_willing willing);
  only = read_twice old.content mid.content new.content reads.changes comes.only;
  lacks = λ willing there. comes.lacks (reads.stays_willing willing)
      (onto (λ files. Covers old.strict files (whole files) (part files)) (λ files. AreThere files (whole files).sources)
      (λ files. AreThere files (part files).sources) old.content mid.content reads.changes covered there (λ files by all. by.there all));
}
covers whole part (ends.Stopped stop) old mid new reads covered comes =
    let stopped : Result Ending Stop = Err stop in
    record {
      cause = subst (λ n. Counts n new.write_faults stopped) reads.quiet comes.cause;
      other = comes.other ∙ reads.calm;
      changes = through _ _ (λ c. (o : Outcome) → MayComeTo (whole c.files).answer o → Stops o c new.content) old.content mid.content reads.changes covered
          comes.changes (λ c left by so o may. stops_read o left c new.content (so o (by.may o may)));
      stays_willing = λ willing. comes.stays_willing (reads.stays_willing willing);
      never_fails = λ willing. comes.never_fails (reads.stays_willing willing);
    }

-- the whole reads these files, which were given, and then as the rest
pub record Goes {T : Type 0} (strict : Bool) (files : Files) (whole rest : Reading T) : Type 0 where
  pub before : List Source
  pub sources : whole.sources ≡ before ++ rest.sources
  pub answer : whole.answer ≡ rest.answer
  pub given : AreGiven strict files before

goes_given : {T : Type 0} (strict : Bool) (files : Files) (whole rest : Reading T) (g : Goes strict files whole rest) → AreGiven strict files rest.sources
    → AreGiven strict files whole.sources
goes_given strict files whole rest g all =
    subst (AreGiven strict files) (sym g.sources) (all_both (IsGiven strict files) g.before rest.sources g.given all)

module _ {T : Type 0} (whole rest : Files → Reading T) where
  -- what the rest comes to, the whole comes to
  pub continues : (r : Result T End) (old mid new : Seen) → OnlyReads old mid → IfSome old.content (λ c. Goes old.strict c.files (whole c.files) (rest c.files))
      → ComesTo rest r mid new → ComesTo whole r old new
  continues (Ok value) old mid new reads goes comes = record {
    reads = reads_twice reads comes.reads;
    gives = through _ _ (λ c. ((whole c.files).answer ≡ Ok value) × AreGiven old.strict c.files (whole c.files).sources) old.content mid.content
        reads.changes goes comes.gives
        (λ c left g so. (
          g.answer ∙ so.0,
          goes_given old.strict c.files (whole c.files) (rest c.files) g
              (subst (λ (s : Bool). AreGiven s c.files (rest c.files).sources) reads.as_strict so.1),
        ));
  }
  continues (Err end) old mid new reads goes comes =
      covers whole rest end old mid new reads
      (where_told _ (λ c. Covers old.strict c.files (whole c.files) (rest c.files)) old.content goes
      (λ c g. record {
        there = λ all. (all_parts (IsThere c.files) g.before (rest c.files).sources (subst (AreThere c.files) g.sources all)).1;
        may = λ o may. subst (λ (a : Result T Outcome). MayComeTo a o) g.answer may;
        ended = λ o is all. (g.answer ∙ is, goes_given old.strict c.files (whole c.files) (rest c.files) g all);
      }))
      comes

  -- the same reading by another name
  pub same_reading : (r : Result T End) (old new : Seen) → ((files : Files) → whole files ≡ rest files) → ComesTo rest r old new → ComesTo whole r old new
  same_reading r old new same comes =
      continues r old old new (nothing_read old)
      (where_all (λ c. Goes old.strict c.files (whole c.files) (rest c.files)) old.content
      (λ c. record {
        before = [];
        sources = ap (λ (x : Reading T). x.sources) (same c.files);
        answer = ap (λ (x : Reading T). x.answer) (same c.files);
        given = tt;
      }))
      comes

-- a reading that gives this for every files, and reads none
pub gives_so : {T : Type 0} (reading : Files → Reading T) (value : T) (old : Seen) → ((files : Files) → reading files ≡ at_once (Ok value))
    → ComesTo reading (Ok value) old old
gives_so reading value old same = same_reading reading (λ _. at_once (Ok value)) (Ok value) old old same (gives value old)

-- or that ends the run with this outcome
pub comes_so : {T : Type 0} (reading : Files → Reading T) (o : Outcome) (r : Result Ending Stop) (end : End) (old new : Seen)
    → ((files : Files) → reading files ≡ at_once (Err o)) → end ≡ end_of r → Writes r (Tells o r) old new → ComesTo reading (Err end) old new
comes_so {T} reading o r end old new same is comes =
    same_reading reading (λ _. at_once (Err o)) (Err end) old new same
    (subst (λ (e : End). ComesTo {T = T} (λ _. at_once (Err o)) (Err e) old new) (sym is) (comes_at_once T o r old new comes))

module _ {A B : Type 0} (first : Files → Reading A) (next : Files → A → Reading B) where
  -- the first part ended the run
  pub ends_first : (end : End) (old new : Seen) → ComesTo first (Err end) old new → ComesTo (λ files. first files >>= next files) (Err end) old new
  ends_first end old new comes =
      covers (λ files. first files >>= next files) first end old old new (nothing_read old)
      (where_all (λ c. Covers old.strict c.files (first c.files >>= next c.files) (first c.files)) old.content
      (λ c. record {
        there = first_all (next c.files) (IsThere c.files) (first c.files).sources (first c.files).answer;
        may = first_may (next c.files) (first c.files).sources (first c.files).answer;
        ended = λ o is all.
            let same = on_end (next c.files) (first c.files) o is in
            (ap (λ (x : Reading B). x.answer) same, subst (λ (x : Reading B). AreGiven old.strict c.files x.sources) (sym same) all);
      }))
      comes

  -- or it was read, and the next did this
  pub then_comes : (x : A) (r : Result B End) (old mid new : Seen) → IsRead first x old mid → ComesTo (λ files. next files x) r mid new
      → ComesTo (λ files. first files >>= next files) r old new
  then_comes x r old mid new read comes =
      continues (λ files. first files >>= next files) (λ files. next files x) r old mid new read.reads
      (where_told _ (λ c. Goes old.strict c.files (first c.files >>= next c.files) (next c.files x)) old.content read.gives
      (λ c so.
      let same = on_value (next c.files) (first c.files) x so.0 in
      record {
        before = (first c.files).sources;
        sources = ap (λ (y : Reading B). y.sources) same;
        answer = ap (λ (y : Reading B). y.answer) same;
        given = so.1;
      })) comes

module _ {A : Type 0} (first : Files → Reading A) (next : Files → A → Reading Outcome) where
  -- the same, of a part that ends the run in each case
  abbrev whole_ending : Files → Reading Outcome
  whole_ending files = ending_of (first files >>= next files)

  pub run_ends_first : (end : End) (old new : Seen) → ComesTo first (Err end) old new → ComesTo whole_ending (Err end) old new
  run_ends_first end old new comes =
      same_reading whole_ending (λ files. first files >>= λ x. ending_of (next files x)) (Err end) old new
      (λ files. ends_on (first files).sources (first files).answer (next files))
      (ends_first first (λ files x. ending_of (next files x)) end old new comes)

  pub run_then_ends : (x : A) (end : End) (old mid new : Seen) → IsRead first x old mid
      → ComesTo (λ files. ending_of (next files x)) (Err end) mid new → ComesTo whole_ending (Err end) old new
  run_then_ends x end old mid new read comes =
      same_reading whole_ending (λ files. first files >>= λ y. ending_of (next files y)) (Err end) old new
      (λ files. ends_on (first files).sources (first files).answer (next files))
      (then_comes first (λ files y. ending_of (next files y)) x (Err end) old mid new read comes)

-- a part that reads nothing came to the run's outcome behind what was read
pub run_comes : {A : Type 0} (first : Files → Reading A) (f : A → Outcome) (x : A) (r : Result Ending Stop) (end : End) (old mid new : Seen)
    → IsRead first x old mid → end ≡ end_of r → Writes r (Tells (f x) r) mid new
    → ComesTo (λ files. ending_of (first files >>= λ y. at_once (Ok (f y)))) (Err end) old new
run_comes first f x r end old mid new read is comes =
    run_then_ends first (λ _ y. at_once (Ok (f y))) x end old mid new read
    (comes_so (λ _. ending_of (at_once (Ok (f x)))) (f x) r end mid new (λ _. refl) is comes)
