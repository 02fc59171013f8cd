-- Edits of a body, one after the other, as a log commits them.
use Rattle.std.specs.Prelude.{ℕ, List, [], ◌∷◌, ◌++◌, length}
use Rattle.patch_bytes.specs.Puts.{Put, write, AreWithin, AreApart}
use Rattle.undo_log.specs.declared.entry.Entry.{Entry}
use Rattle.undo_log.specs.Entries.{entry_of}

-- what one edit writes into the body, and what it puts behind it
pub record Change : Type 0 where
  pub patches : List Put
  pub append : List ℕ

-- the body with an edit
abbrev pub changed : List ℕ → Change → List ℕ
changed b c = write b c.patches ++ c.append

-- the edit's patches lie in the body, and no two share a byte
pub record MayCommit (b : List ℕ) (c : Change) : Type 0 where
  pub within : AreWithin (length b) c.patches
  pub apart : AreApart c.patches

-- In what follows edits and entries stand the newest first.

-- the body after all edits
abbrev pub body_after : List ℕ → List Change → List ℕ
body_after b [] = b
body_after b (c ∷ cs) = changed (body_after b cs) c

-- each could be committed when its turn came
abbrev pub AreCommits : List ℕ → List Change → Type 0
AreCommits b [] = Unit {0}
AreCommits b (c ∷ cs) = MayCommit (body_after b cs) c × AreCommits b cs

-- the entries that they add
abbrev pub entries_after : List ℕ → List Change → List Entry
entries_after b [] = []
entries_after b (c ∷ cs) = entry_of (body_after b cs) c.patches ∷ entries_after b cs
