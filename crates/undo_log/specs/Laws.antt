-- What holds of all entries, and of a log that commits and undoes.
use Rattle.std.specs.Prelude.{ℕ, ◌≡◌, ◌≤◌, List, [], ◌∷◌, ◌++◌, length, drop, reverse}
use Rattle.undo_log.specs.declared.entry.Entry.{Entry}
use Rattle.undo_log.specs.Entries.{entry_of, back, back_by, bodies, Fits, NewestFits, AreFit, IsUndone}
use Rattle.undo_log.specs.Commits.{Change, changed, MayCommit, body_after, AreCommits, entries_after}

-- an edit's entry can be written back into the body that the edit left, and gives the body before
abbrev pub EntryRestores : Type 0
EntryRestores =
    (b : List ℕ) (c : Change) → MayCommit b c
    → Fits (length (changed b c)) (entry_of b c.patches) × (back (changed b c) (entry_of b c.patches) ≡ b)

-- writing back gives a body of the entry's length
abbrev pub BackHasTheLength : Type 0
BackHasTheLength = (b : List ℕ) (e : Entry) → Fits (length b) e → length (back b e) ≡ e.len

-- where the last thing that a log did was to commit an edit of b, undoing may follow, and what it leaves
-- is the entries and the body before that edit
abbrev pub UndoTakesBack : Type 0
UndoTakesBack =
    (b : List ℕ) (c : Change) (es new : List Entry) (d : List ℕ) → MayCommit b c
    → NewestFits (length (changed b c)) (reverse (es ++ entry_of b c.patches ∷ []))
    × (IsUndone (es ++ entry_of b c.patches ∷ []) (changed b c) new d → (new ≡ es) × (d ≡ b))

-- after any edits of b, over older entries, the k newest entries written back in turn give the body that
-- was there before the k newest edits
abbrev pub CommitsRestore : Type 0
CommitsRestore =
    (b : List ℕ) (cs : List Change) (older : List Entry) → AreCommits b cs → (k : ℕ) → k ≤ length cs
    → back_by k (body_after b cs) (entries_after b cs ++ older) ≡ body_after b (drop k cs)

-- and each can be written back in turn, where each older one can
abbrev pub CommitsFit : Type 0
CommitsFit =
    (b : List ℕ) (cs : List Change) (older : List Entry) → AreCommits b cs → AreFit b older
    → AreFit (body_after b cs) (entries_after b cs ++ older)

-- one more edit puts one more body before those that the entries lead back to
abbrev pub CommitPushes : Type 0
CommitPushes =
    (b : List ℕ) (c : Change) (es : List Entry) → MayCommit b c
    → bodies (changed b c) (entry_of b c.patches ∷ es) ≡ changed b c ∷ bodies b es
