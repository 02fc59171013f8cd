-- What a field exchanges.
use Rattle.std.specs.Prelude.{◌≡◌, take}
use Rattle.patch_file.specs.declared.field.Field.{Field}
use Rattle.patch_file.specs.Exchanges.{Exchange}

-- the first `len` of the bytes that were, and of those that are put, at its place
abbrev pub exchange_of : Field → Exchange
exchange_of f = record { at = f.at; was = take f.len f.was; put = take f.len f.put }

-- fields that exchange the same are the same
abbrev pub ExchangesTell : Field → Field → Type 0
ExchangesTell f g = exchange_of f ≡ exchange_of g → f ≡ g
