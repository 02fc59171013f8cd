-- A patch entry on a body: whether it stands there, what it makes of it, and how one is taken off.
use Rattle.std.specs.Prelude.{ℕ, ◌≡◌, ◌≤◌, List, [], ◌∷◌, ◌++◌, length, take, drop, map}
use Rattle.std.specs.List.{AllByRecursion}
use Rattle.patch_bytes.specs.Puts.{Put, Span, write}
use Rattle.undo_log.specs.declared.entry.Entry.{Entry}
use Rattle.undo_log.specs.Entries.{back}
use Rattle.patch_file.specs.Exchanges.{Exchange}
use Rattle.patch_file.specs.Spelling.{Packed}

-- the field's old bytes stand at its place
abbrev pub HoldsOld : List ℕ → Exchange → Type 0
HoldsOld b f = take (length f.was) (drop f.at b) ≡ f.was

-- the body has the entry's old length, and each field holds its old bytes
pub record Stands (b : List ℕ) (e : Packed) : Type 0 where
  pub long : length b ≡ e.len
  pub fields : AllByRecursion (HoldsOld b) e.fields

-- the new bytes of a field, at its place
abbrev pub new_of : Exchange → Put
new_of f = record { at = f.at; bytes = f.put }

-- the body with the new bytes written in the fields, and the appended bytes behind it
abbrev pub put_on : List ℕ → Packed → List ℕ
put_on b e = write b (map new_of e.fields) ++ e.append

-- what a patch of the log exchanges: its bytes were, and those that stand at its place in the body are put
abbrev pub exchanged : List ℕ → Put → Exchange
exchanged b p = record { at = p.at; was = p.bytes; put = take (length p.bytes) (drop p.at b) }

-- the entry that is taken off a body from which the log's entry leads back
abbrev pub taken_of : List ℕ → Entry → Packed
taken_of b e = record { len = e.len; fields = map (exchanged b) e.patches; append = drop e.len b }

-- an entry of the log whose patches rise within the old length, which the body has at least
pub record MayTake (b : List ℕ) (e : Entry) : Type 0 where
  pub long : e.len ≤ length b
  pub rising : Span 0 e.patches e.len

-- Several entries, put on in order.

-- each stands on what those before it made
abbrev pub AllStand : List ℕ → List Packed → Type 0
AllStand b [] = Unit {0}
AllStand b (e ∷ es) = Stands b e × AllStand (put_on b e) es

abbrev pub put_all : List ℕ → List Packed → List ℕ
put_all b [] = b
put_all b (e ∷ es) = put_all (put_on b e) es

-- In what follows the entries of the log stand the newest first.

-- what is taken off while each is written back in turn, in the order in which the edits were made
abbrev pub all_taken : List ℕ → List Entry → List Packed
all_taken b [] = []
all_taken b (e ∷ es) = all_taken (back b e) es ++ taken_of b e ∷ []

-- each can be taken when its turn comes
abbrev pub MayTakeAll : List ℕ → List Entry → Type 0
MayTakeAll b [] = Unit {0}
MayTakeAll b (e ∷ es) = MayTake b e × MayTakeAll (back b e) es
