-- What is known of the values that a revision carries.
use Rattle.std.specs.Prelude.{ℕ, ◌≡◌, ◌<◌, ◌≤◌, ℤ, List, length}
use Rattle.std.specs.List.{AllByRecursion}
use Rattle.dgn_drawing.specs.WellFormed.{IsDimension, IsBytes}
use Rattle.dgn_drawing.specs.NewElements.{IsPointFor}
use Rattle.dgn_revision.specs.declared.revision.Revision.{Revision}
use Rattle.dgn_revision.specs.declared.revision.Revision.TheVariants as revision

-- a name is two words
pub record IsName (name : List ℕ) : Type 0 where
  pub long : length name ≡ 2
  pub words : AllByRecursion (λ w. w < 65536) name

-- the characters of a text are 1 to 255 bytes
pub record AreCharacters (chars : List ℕ) : Type 0 where
  pub some : 1 ≤ length chars
  pub few : length chars ≤ 255
  pub bytes : IsBytes chars

-- a vertex is counted from 1, and its point is given for 2 or 3 axes, with z 0 where they are 2
pub record IsVertex (index : ℕ) (point : List ℤ) (axes : ℕ) : Type 0 where
  pub counted : 1 ≤ index
  pub dimension : IsDimension axes
  pub numbers : IsPointFor axes point

-- what is known of a revision
abbrev pub IsRevision : Revision → Type 0
IsRevision (revision.Relevel level) = level < 64
IsRevision revision.Lock = Unit {0}
IsRevision revision.Unlock = Unit {0}
IsRevision revision.Undelete = Unit {0}
IsRevision (revision.Rename name) = IsName name
IsRevision (revision.Retext characters) = AreCharacters characters
IsRevision (revision.Vertex index point axes) = IsVertex index point axes
