-- What a contract sees of a log.
use Rattle.std.specs.Prelude.{ℕ, List}
use Rattle.undo_log.specs.declared.entry.Entry.{Entry}

-- the entries, the oldest first, and how many more there is room for
pub record LogState : Type 0 where
  pub entries : List Entry
  pub spare : ℕ
