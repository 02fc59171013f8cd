-- What is written of each field and of each entry.
use Rattle.std.proofs.Common.{ℕ, ◌≡◌, List, [], ◌∷◌, ◌++◌, map, refl, ap}
use Rattle.std.specs.List.{flat_map}
use Rattle.patch_file.specs.declared.field.Field.{Field}
use Rattle.patch_file.specs.declared.patch_entry.PatchEntry.{PatchEntry}
use Rattle.patch_file.specs.FieldView.{exchange_of}
use Rattle.patch_file.specs.PatchView.{packed_of}
use Rattle.patch_file.specs.Spelling.{field_spelling, entry_spelling}

-- the spelling of what a field exchanges
abbrev pub spelling_of_field : Field → List ℕ
spelling_of_field field = field_spelling (exchange_of field)

-- the spelling of what an entry packs
abbrev pub spelling_of_entry : PatchEntry → List ℕ
spelling_of_entry entry = entry_spelling (packed_of entry)

-- the texts of what a view gives of each are those of each
pub viewed : {X Y : Type 0} (f : Y → List ℕ) (g : X → Y) (xs : List X) → flat_map (λ x. f (g x)) xs ≡ flat_map f (map g xs)
viewed f g [] = refl
viewed f g (x ∷ xs) = ap (λ (t : List ℕ). f (g x) ++ t) (viewed f g xs)
