-- What the calls that read say.
use Rattle.std.specs.Prelude.{ℕ, ◌≡◌, List, Result, Ok, Err}
use Rattle.std.specs.Global.{Vec}
use Rattle.patch_file.specs.declared.patch_entry.PatchEntry.{PatchEntry}
use Rattle.patch_file.specs.declared.patch_fault.PatchFault.{PatchFault}
use Rattle.patch_file.specs.declared.patch_fault.PatchFault.TheVariants.{At}
use Rattle.patch_file.specs.declared.patch_fault.PatchFault.TheVariants as fault
use Rattle.patch_file.specs.declared.stop.Stop.{Stop}
use Rattle.patch_file.specs.declared.stop.Stop.TheVariants.{Bad}
use Rattle.patch_file.specs.declared.stop.Stop.TheVariants as stop
use Rattle.patch_file.specs.Spelling.{Packed, AreEntries, patch_spelling}
use Rattle.patch_file.specs.PatchView.{all_packed}
use Rattle.patch_file.specs.BadPieces.{IsBadAt}

-- the reading stopped at that piece; want of memory says nothing of the bytes
abbrev pub Stops : {Y : Type 0} → Stop → Result Y ℕ → Type 0
Stops stop.Memory read = Unit {0}
Stops (Bad left) read = read ≡ Err left

-- what a call returned, seen by view, is what reading gives, unless memory ran out
abbrev pub Gives : {X Y : Type 0} → (X → Y) → Result X Stop → Result Y ℕ → Type 0
Gives view (Ok x) read = read ≡ Ok (view x)
Gives view (Err e) read = Stops e read

-- the file is the spelling of these entries
pub record Spells (es : List Packed) (file : List ℕ) : Type 0 where
  pub entries : AreEntries es
  pub spelled : file ≡ patch_spelling es

-- unless memory ran out, the answer is the list of these entries
abbrev pub IsList : List Packed → Result (Vec PatchEntry) PatchFault → Type 0
IsList es (Ok v) = all_packed v.items ≡ es
IsList es (Err fault.Memory) = Unit {0}
IsList es (Err (At offset)) = ⊥

-- where a piece is named, it is the bad piece
abbrev pub NamesBad : List ℕ → Result (Vec PatchEntry) PatchFault → Type 0
NamesBad file (Ok v) = Unit {0}
NamesBad file (Err fault.Memory) = Unit {0}
NamesBad file (Err (At offset)) = IsBadAt file offset

-- unless memory ran out, the answer is this offset
abbrev pub IsNamed : ℕ → Result (Vec PatchEntry) PatchFault → Type 0
IsNamed offset (Ok v) = ⊥
IsNamed offset (Err fault.Memory) = Unit {0}
IsNamed offset (Err (At other)) = other ≡ offset
