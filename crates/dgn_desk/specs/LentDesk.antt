-- A desk of memory over files that are lent: what it holds, and how often a file that was to be read wasn't there. What is
-- written stands in front of what is lent, and is found first.
use Rattle.std.specs.Prelude.{ℕ, List, map, ◌++◌, Option, IsSome, IfSome, refl}
use Rattle.std.specs.Coded.{Coded, code_by, coded×, coded_ℕ}
use Rattle.std.specs.FinMap as maps
use Rattle.dgn_desk.specs.Content.{Files, Content, coded_content}
use Rattle.dgn_desk.specs.declared.lent_file.LentFile.{LentFile}

pub record LentDesk : Type 0 where
  pub content : Content
  pub read_faults : ℕ

-- such a desk as data: its fields in order
abbrev pub coded_lent : Coded LentDesk
coded_lent =
    code_by (Content × ℕ) (coded× coded_content coded_ℕ) (λ d. (d.content, d.read_faults)) (λ p. record { content = p.0; read_faults = p.1 }) (λ _. refl)

-- a file that is lent, as its name and its bytes
abbrev pub pair_of : LentFile → List ℕ × List ℕ
pair_of f = (f.name.now, f.bytes.now)

-- the files that are lent; of two of one name the first
abbrev pub lent_files : List LentFile → Files
lent_files fs = maps.from_entries (map pair_of fs)

-- the files that were written, and those that are lent under other names
abbrev pub over : Files → List LentFile → Files
over written fs = maps.from_entries (maps.entries written ++ map pair_of fs)

-- the file that writes go to, if one was begun, is one that was written
abbrev pub IsBegun : Option (List ℕ) → Files → Type 0
IsBegun target written = IfSome target (λ name. IsSome (maps.get written name))
