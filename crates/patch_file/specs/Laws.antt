-- What holds of all patch files, and of all entries that are taken off and put on.
use Rattle.std.specs.Prelude.{ℕ, ◌≡◌, ◌<◌, ◌↔◌, List, map, length, All, Ok, Err}
use Rattle.patch_bytes.specs.Puts.{Put, Span, old_of}
use Rattle.undo_log.specs.declared.entry.Entry.{Entry}
use Rattle.undo_log.specs.Entries.{entry_of, back, back_by}
use Rattle.undo_log.specs.Commits.{Change, changed, MayCommit}
use Rattle.patch_file.specs.Exchanges.{Exchange}
use Rattle.patch_file.specs.Spelling.{Packed, AreEntries, patch_spelling}
use Rattle.patch_file.specs.Reading.{patch_of}
use Rattle.patch_file.specs.Answers.{Spells}
use Rattle.patch_file.specs.BadPieces.{IsBad, IsBadAt}
use Rattle.patch_file.specs.Standing.{Stands, put_on, taken_of, MayTake, AllStand, put_all, all_taken, MayTakeAll}

-- reading the spelling of entries gives these entries
abbrev pub SpelledIsRead : Type 0
SpelledIsRead = (es : List Packed) → AreEntries es → patch_of (patch_spelling es) ≡ Ok es

-- a file of bytes is the spelling of entries, which are read, or is bad at an offset, where reading stops; and no file is both
pub record IsReadOrBad (file : List ℕ) : Type 0 where
  pub spelled : (es : List Packed) → (patch_of file ≡ Ok es) ↔ Spells es file
  pub bad : (left : ℕ) → (patch_of file ≡ Err left) ↔ IsBad file left
  pub one : (p q : ℕ) → IsBadAt file p → IsBadAt file q → p ≡ q
  pub either : (es : List Packed) (p : ℕ) → Spells es file → ¬ IsBadAt file p

abbrev pub ReadsByPieces : Type 0
ReadsByPieces = (file : List ℕ) → All (λ b. b < 256) file → IsReadOrBad file

-- entries that have the same spelling are the same
abbrev pub OneSpelling : Type 0
OneSpelling =
    (es fs : List Packed) → AreEntries es → AreEntries fs → patch_spelling es ≡ patch_spelling fs → es ≡ fs

-- what is taken off a body stands on the body that the log's entry leads back to, and put on that gives the body
abbrev pub TakenGivesTheSame : Type 0
TakenGivesTheSame =
    (b : List ℕ) (e : Entry) → MayTake b e → Stands (back b e) (taken_of b e) × (put_on (back b e) (taken_of b e) ≡ b)

-- what is taken off for all of some entries stands, one after the other, on the body that they lead back to, and
-- gives the body
abbrev pub AllTakenGiveTheSame : Type 0
AllTakenGiveTheSame =
    (b : List ℕ) (es : List Entry) → MayTakeAll b es
    → AllStand (back_by (length es) b es) (all_taken b es)
    × (put_all (back_by (length es) b es) (all_taken b es) ≡ b)

-- what an edit writes at a place, over what stands there
abbrev pub exchange_made : List ℕ → Put → Exchange
exchange_made b p = record { at = p.at; was = (old_of b p).bytes; put = p.bytes }

-- what is taken off the body that an edit of b left is what the edit wrote, over what stood there, and what it
-- appended
abbrev pub TakenIsTheEdit : Type 0
TakenIsTheEdit =
    (b : List ℕ) (c : Change) → MayCommit b c
    → taken_of (changed b c) (entry_of b c.patches)
    ≡ record { len = length b; fields = map (exchange_made b) c.patches; append = c.append }

-- it can be taken off there, where the edit's patches rise within the body
abbrev pub EditsMayBeTaken : Type 0
EditsMayBeTaken =
    (b : List ℕ) (c : Change) → Span 0 c.patches (length b) → MayTake (changed b c) (entry_of b c.patches)
