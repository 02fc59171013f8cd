-- The steps of a run, one after the other: what those that ran have said and done, and what those that are left will.
use Rattle.std.proofs.Common.{◌≡◌, ℕ, ◌+◌, ◌<◌, Bool, Ok, Err, List, [], ◌∷◌, ◌++◌, length, get_or, take, drop, arith, Option, Some, None, refl, sym, ap}
use Rattle.std.proofs.Common.{◌∙◌, subst, append_assoc}
use Rattle.std.specs.Prelude.{option_map}
use Rattle.std.specs.Int.{from_bool}
use Rattle.std.proofs.lemmas.List.{append-nil, take-append-drop}
use Rattle.dgn_desk.specs.Content.{Content, spoken}
use Rattle.dgn_desk.specs.Desk.{SaysAll}
use Rattle.dgn_desk.specs.Seen.{Seen, Writes}
use Rattle.dgn_desk.specs.declared.stop.Stop.{Stop}
use Rattle.dgn_desk.proofs.InTurn.{stopped_so, then_so}
use Rattle.dgn_desk.proofs.Telling.{spoken-append}
use Rattle.dgn_session.specs.State.{State}
use Rattle.dgn_import.specs.Seconds.{SecondValue}
use Rattle.dgn_drawing.specs.declared.command.Command.{Command}
use Rattle.dgn_answers.specs.Steps.{Step, step_of, steps_of, seconds_behind, after_all, texts_of, refused_count, step_answer}
use Rattle.dgn_answers.proofs.Stepping.{next_step}
use Rattle.dgn_tool.specs.Leaving.{SaysFront, SaysAs}

-- all of this text was said
abbrev pub SaidSo : List ℕ → Seen → Seen → Type 0
SaidSo text old now = Writes {T = Unit {0}} (Ok tt) (SaysAs {T = Unit {0}} (Ok tt) text) old now

-- the commands before these are done
pub record Ran (all left : List Step) (refused : ℕ) (from s : State) (old now : Seen) : Type 0 where
  pub done : List ℕ
  pub texts : texts_of all from ≡ done ++ texts_of left s
  pub said : SaidSo done old now
  pub count : refused_count all from ≡ refused + refused_count left s
  pub state : after_all all from ≡ after_all left s

-- nothing was said
unsaid : (c : Option Content) → c ≡ option_map (spoken []) c
unsaid None = refl
unsaid (Some c) = ap (λ (t : List ℕ). Some (record c { since = t })) (sym (append-nil c.since))

sum_moved : (a b c : ℕ) → a + (b + c) ≡ (a + b) + c
sum_moved a b c = omega arith

sum_zero : (a : ℕ) → a + 0 ≡ a
sum_zero a = omega arith

-- of the commands that are left one is the next, and its line is what it says
pub record IsNext (all more : List Step) (c : Step) (refused : ℕ) (line : List ℕ) (from s : State) (old now : Seen) : Type 0 where
  pub ran : Ran all (c ∷ more) refused from s old now
  pub line_is : line ≡ (step_answer s c).text

pub is_next : (all : List Step) (cs : List Command) (i : ℕ) (c : Command) (vs left : List SecondValue) (refused : ℕ) (from s : State) (old now : Seen)
    → i < length cs → c ≡ get_or cs i c → left ≡ seconds_behind c vs → Ran all (steps_of (drop i cs) vs) refused from s old now
    → (line out before : List ℕ) → line ≡ out → out ≡ before ++ (step_answer s (step_of c vs)).text → before ≡ []
    → IsNext all (steps_of (drop (i + 1) cs) left) (step_of c vs) refused line from s old now
is_next all cs i c vs left refused from s old now more is behind ran line out before same put none = record {
  ran = subst (λ (rest : List Step). Ran all rest refused from s old now) (next_step cs i c vs left more is behind) ran;
  line_is = same ∙ put ∙ ap (λ (b : List ℕ). b ++ (step_answer s (step_of c vs)).text) none;
}

-- one more command
pub ran_more : (all left : List Step) (c : Step) (refused : ℕ) (was : Bool) (line : List ℕ) (from s new : State) (old now then : Seen)
    → IsNext all left c refused line from s old now
    → new ≡ (step_answer s c).state → Writes {T = Unit {0}} (Ok tt) (SaysAll (Ok tt) line) now then → was ≡ (step_answer s c).refused
    → Ran all left (refused + from_bool was) from new old then
ran_more all left c refused was line from s new old now then next new_is says was_is =
    let ran = next.ran in
    let line_is = next.line_is in
    let text : List ℕ = (step_answer s c).text in
    record {
      done = ran.done ++ text;
      texts = ran.texts
          ∙ ap (λ (t : State). ran.done ++ (text ++ texts_of left t)) (sym new_is)
          ∙ sym (append_assoc ran.done text (texts_of left new));
      said = then_so tt (Ok tt) ran.said says
          (λ before more. more ∙ ap (λ (l : List ℕ). option_map (spoken l) now.content) line_is ∙ ap (option_map (spoken text)) before
          ∙ spoken-append ran.done text old.content);
      count = ran.count
          ∙ ap (λ (t : State). refused + (from_bool (step_answer s c).refused + refused_count left t)) (sym new_is)
          ∙ sum_moved refused (from_bool (step_answer s c).refused) (refused_count left new)
          ∙ ap (λ (b : Bool). (refused + from_bool b) + refused_count left new) (sym was_is);
      state = ran.state ∙ ap (after_all left) (sym new_is);
    }

-- and where the desk stops in the midst of its text, a front of that too
pub ran_part : (all left : List Step) (c : Step) (refused : ℕ) (stop : Stop) (line : List ℕ) (from s : State) (old now then : Seen)
    → IsNext all left c refused line from s old now
    → Writes {T = Unit {0}} (Err stop) (SaysAll (Err stop) line) now then → Writes {T = ℕ} (Err stop) (SaysAs {T = ℕ} (Err stop) (texts_of all from))
    old then
ran_part all left c refused stop line from s old now then next says =
    let ran = next.ran in
    let line_is = next.line_is in
    let both : Writes {T = Unit {0}} (Err stop) (λ a b. SaysFront (texts_of all from) a b) old then =
    then_so tt (Err stop) ran.said says (λ before part.
    let more : List ℕ = texts_of left (step_answer s c).state in (
      ran.done ++ take part.0 line,
      (
        drop part.0 line ++ more,
        ran.texts
            ∙ ap (λ (t : List ℕ). ran.done ++ (t ++ more)) (sym (take-append-drop part.0 line ∙ line_is))
            ∙ ap (λ (t : List ℕ). ran.done ++ t) (append_assoc (take part.0 line) (drop part.0 line) more)
            ∙ sym (append_assoc ran.done (take part.0 line) (drop part.0 line ++ more)),
      ),
      part.2 ∙ ap (option_map (spoken (take part.0 line))) before ∙ spoken-append ran.done (take part.0 line) old.content,
    )) in
    stopped_so stop both (λ front. front)
