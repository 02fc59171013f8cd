-- How commands change what a session's log holds: as they change the edits that are left.
use Rattle.std.proofs.Common.{◌≡◌, ℕ, Bool, true, false, List, [], ◌∷◌, map, reverse, sym, ap, ◌∙◌, subst}
use Rattle.std.proofs.lemmas.List.{reverse-append}
use Rattle.undo_log.specs.declared.entry.Entry.{Entry}
use Rattle.undo_log.specs.Entries.{IsUndone}
use Rattle.dgn_session.specs.State.{State, SessionValue, state_of, undo_refused}
use Rattle.dgn_answers.specs.Remaining.{RemainingEdit, without_newest}
use Rattle.dgn_answers.specs.Steps.{Step, step_answer, with_steps}
use Rattle.dgn_answers.specs.Logs.{entry_made, IsLogOf, LogsAs, AllLogAs}
use Rattle.dgn_answers.proofs.UndoRefusals.{not_refused}

-- one less
first_less : (dim : ℕ) (e : Entry) (es : List Entry) (left : List RemainingEdit) → e ∷ es ≡ map (entry_made dim) left
    → es ≡ map (entry_made dim) (without_newest false left)
first_less dim e es [] is = absurd (let x = is in cc)
first_less dim e es (m ∷ left) is = let x = is in cc

-- an undo
pub undo_logs : (old new : SessionValue) → (old.entries ≡ [] → false ≡ true) → IsUndone old.entries old.body new.entries new.body → new.dim ≡ old.dim
    → LogsAs (without_newest (undo_refused (state_of old))) old new
undo_logs old new some undone dim left log =
    let e : Entry = undone.last in
    let newest : e ∷ reverse new.entries ≡ map (entry_made old.dim) left =
    sym (ap (λ (es : List Entry). reverse es) undone.dropped ∙ reverse-append new.entries (e ∷ [])) ∙ log in
    subst (λ (refused : Bool). IsLogOf new (without_newest refused left)) (sym (not_refused old some))
    (first_less old.dim e (reverse new.entries) left newest ∙ ap (λ (k : ℕ). map (entry_made k) (without_newest false left)) (sym dim))

-- steps, one after the other: what those that ran have left, and what those that are left will
pub record LogsSo (all rest : List Step) (from v : SessionValue) : Type 0 where
  pub so : (left : List RemainingEdit) → IsLogOf from left
      → (now : List RemainingEdit) × IsLogOf v now × (with_steps all (state_of from) left ≡ with_steps rest (state_of v) now)

-- one more
pub logs_more : (all rest : List Step) (g : Step) (from v new : SessionValue) → LogsSo all (g ∷ rest) from v → LogsAs (step_answer (state_of v) g).left v new
    → state_of new ≡ (step_answer (state_of v) g).state → LogsSo all rest from new
logs_more all rest g from v new done logs is = record {
  so = λ left log.
      let here = done.so left log in (
        (step_answer (state_of v) g).left here.0,
        logs here.0 here.1,
        here.2 ∙ ap (λ (s : State). with_steps rest s ((step_answer (state_of v) g).left here.0)) (sym is),
      );
}

-- where no step is left, all have run
pub logs_all : (all rest : List Step) (from v : SessionValue) → LogsSo all rest from v → rest ≡ [] → AllLogAs all from v
logs_all all rest from v done none left log =
    let here = done.so left log in
    subst (IsLogOf v) (sym (here.2 ∙ ap (λ (gs : List Step). with_steps gs (state_of v) here.0) none)) here.1
