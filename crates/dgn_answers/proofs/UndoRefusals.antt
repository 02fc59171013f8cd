-- Whether an undo is refused in the state that a session stands for: exactly where the log has no entry.
use Rattle.std.proofs.Common.{◌≡◌, ℕ, List, [], ◌∷◌, reverse, true, false, refl, sym, ap, ◌∙◌}
use Rattle.std.proofs.lemmas.List.{reverse-reverse}
use Rattle.undo_log.specs.declared.entry.Entry.{Entry}
use Rattle.dgn_session.specs.State.{SessionValue, state_of, earlier_of, is_none, undo_refused}

-- an entry leads to an earlier list
some_earlier : (dim : ℕ) (b : List ℕ) (es : List Entry) → (es ≡ [] → false ≡ true) → is_none (earlier_of dim b es) ≡ false
some_earlier dim b [] some = sym (some refl)
some_earlier dim b (e ∷ []) some = refl
some_earlier dim b (e ∷ f ∷ es) some = refl

-- with an entry an undo is not refused
pub not_refused : (v : SessionValue) → (v.entries ≡ [] → false ≡ true) → undo_refused (state_of v) ≡ false
not_refused v some =
    some_earlier v.dim v.body (reverse v.entries) (λ none. some (sym (reverse-reverse v.entries) ∙ ap (λ (es : List Entry). reverse es) none))
