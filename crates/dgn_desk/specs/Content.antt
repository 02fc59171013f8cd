-- What a desk holds, where it tells it: its files by name, the bytes that are left of the file being
-- read, the name that writes go to, and all that was said: before the last file was begun, and since. Names and texts are
-- lists of bytes.
use Rattle.std.specs.Prelude.{ℕ, ◌≡◌, List, [], ◌++◌, drop, Option, Some, None, IsSome, IfSome, unwrap_or, option_map, refl}
use Rattle.std.specs.Ordering.{nat_cmp}
use Rattle.std.specs.Cmp.Lexicographic.{slice_cmp}
use Rattle.std.specs.Coded.{Coded, code_by, coded×, coded_ℕ, coded_list, coded_option}
use Rattle.std.specs.FinMap as maps

-- files by name
abbrev pub Files : Type 0
Files = maps.FinMap (slice_cmp nat_cmp) (List ℕ)

-- all that a desk holds
pub record Content : Type 0 where
  pub files : Files
  pub left : List ℕ
  pub target : Option (List ℕ)
  pub settled : List ℕ
  pub since : List ℕ

-- all that was said: what had been said when a file was last begun to write to, and what was said since
abbrev pub all_said : Content → List ℕ
all_said c = c.settled ++ c.since

-- a list of bytes as data
abbrev pub coded_bytes : Coded (List ℕ)
coded_bytes = coded_list coded_ℕ

-- a content as data: its fields in order
abbrev pub coded_content : Coded Content
coded_content =
    code_by (Files × (List ℕ × (Option (List ℕ) × (List ℕ × List ℕ))))
    (coded× (maps.code coded_bytes coded_bytes) (coded× coded_bytes (coded× (coded_option coded_bytes) (coded× coded_bytes coded_bytes))))
    (λ c. (c.files, (c.left, (c.target, (c.settled, c.since)))))
    (λ p. record { files = p.0; left = p.1.0; target = p.1.1.0; settled = p.1.1.1.0; since = p.1.1.1.1 }) (λ _. refl)

-- the bytes of a file; one that isn't there counts as empty
abbrev pub bytes_of : Files → List ℕ → List ℕ
bytes_of files name = unwrap_or (maps.get files name) []

-- the named file has these bytes, and every other file stays
abbrev pub with_file : List ℕ → List ℕ → Files → Files
with_file name bytes files = maps.insert files name bytes

-- this is what is left to read
abbrev pub with_left : List ℕ → Content → Content
with_left left c = record c { left = left }

-- reading begins at the front of the named file
abbrev pub opened : List ℕ → Content → Content
opened name c = with_left (bytes_of c.files name) c

-- so many bytes were read
abbrev pub consumed : ℕ → Content → Content
consumed count c = with_left (drop count c.left) c

-- the named file was begun and has these bytes, and writes go to it
abbrev pub filed : List ℕ → List ℕ → Content → Content
filed name bytes c = record { files = with_file name bytes c.files; left = c.left; target = Some name; settled = all_said c; since = [] }

-- these bytes stand behind those of the file that writes go to
abbrev pub written_to : Option (List ℕ) → List ℕ → Content → Content
written_to None bytes c = c
written_to (Some name) bytes c = record c { files = with_file name (bytes_of c.files name ++ bytes) c.files }

abbrev pub written : List ℕ → Content → Content
written bytes c = written_to c.target bytes c

-- these bytes were said
abbrev pub spoken : List ℕ → Content → Content
spoken bytes c = record c { since = c.since ++ bytes }

-- reading alone was done: nothing but what is left to read may differ
abbrev pub OnlyLeftDiffers : Option Content → Option Content → Type 0
OnlyLeftDiffers old new = (left : List ℕ) × (new ≡ option_map (with_left left) old)

-- the named file is there, where it is told which are
abbrev pub HasFile : List ℕ → Option Content → Type 0
HasFile name content = IfSome content (λ c. IsSome (maps.get c.files name))

-- there is a name that writes go to, where that is told
abbrev pub HasTarget : Option Content → Type 0
HasTarget content = IfSome content (λ c. IsSome c.target)
