-- Files kept in a map from texts to vectors of bytes: the files that its entries stand for.
use Rattle.std.specs.Prelude.{ℕ, List, map, String, Vec, string_bytes}
use Rattle.std.specs.FinMap as maps
use Rattle.dgn_desk.specs.Content.{Files}

-- an entry, as the bytes of its name and its bytes
abbrev pub entry_of : {Y Z : Type 0} → String Y × Vec ℕ Z → List ℕ × List ℕ
entry_of e = (string_bytes e.0, e.1.items)

-- the files that the entries stand for
abbrev pub files_of : {Y Z : Type 0} → List (String Y × Vec ℕ Z) → Files
files_of entries = maps.from_entries (map entry_of entries)
