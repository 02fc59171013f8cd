-- What a caller of `undo` knows once it has called, whatever it does with the answer.
use Rattle.std.proofs.Common.{◌≡◌, ◌↔◌, ℕ, List, [], ◌∷◌, ◌++◌, Bool, true, false, IsFalse, refl}
use Rattle.undo_log.specs.declared.entry.Entry.{Entry}
use Rattle.undo_log.specs.Entries.{IsUndone}

not_empty : (es : List Entry) (e : Entry) → es ++ e ∷ [] ≡ [] → ⊥
not_empty [] e h = cc
not_empty (x ∷ xs) e h = cc

-- where there is an entry, it was undone
pub undone_where_kept : (r : Bool) (es : List Entry) (e : Entry) (b : List ℕ) (new : List Entry) (d : List ℕ) → (IsFalse r ↔ (es ++ e ∷ [] ≡ []))
    → (r ≡ true → IsUndone (es ++ e ∷ []) b new d) → IsUndone (es ++ e ∷ []) b new d
undone_where_kept true es e b new d empty undone = undone refl
undone_where_kept false es e b new d empty undone = absurd (not_empty es e (empty.0 refl))
