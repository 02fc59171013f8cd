-- What holds of every drawing whose headers are put right.
use Rattle.std.specs.Prelude.{ℕ, ◌≡◌, ◌<◌, IsTrue, IsFalse, Bool, true, false, List, [], ◌∷◌, ◌++◌, length, map, slice_index, All}
use Rattle.patch_bytes.specs.Puts.{write}
use Rattle.dgn_layout.specs.Classes.{class_of}
use Rattle.dgn_drawing.specs.Element.{Element}
use Rattle.dgn_drawing.specs.Spelling.{spelling, size_of}
use Rattle.dgn_drawing.specs.WellFormed.{IsWellFormed}
use Rattle.dgn_drawing.specs.Nesting.{Knot, Forest, NoTree, Tree, AreMembers, is_counted, forest, joined, flat}
use Rattle.dgn_drawing.specs.Numbering.{is_loose}
use Rattle.dgn_drawing.specs.Rows.{row_of}
use Rattle.dgn_drawing.specs.Opening.{Opens}
use Rattle.edit_ops.specs.Causes.{is_locked}
use Rattle.edit_ops.specs.Fields.{Field, IsIn, Rise}
use Rattle.dgn_mend.specs.Mending.{has_changed, mend, mend_puts, mend_fields}

-- an element and what mending makes of it: a well formed one, as large and of the same type. A locked one stays; so does
-- one that isn't a counted header; and one whose total and bit C stay does so wholly
pub record IsMendedFrom (dim : ℕ) (e m : Element) : Type 0 where
  pub good : IsWellFormed dim m
  pub size : size_of m ≡ size_of e
  pub kind : m.kind ≡ e.kind
  pub locked : IsTrue (is_locked e.body) → m ≡ e
  pub other : IsFalse (is_counted (class_of e.kind)) → m ≡ e
  pub same : IsFalse (has_changed e m) → m ≡ e

-- each of some elements and what mending makes of it, in their order
abbrev pub AreMendedFrom : ℕ → List Element → List Element → Type 0
AreMendedFrom dim [] [] = Unit {0}
AreMendedFrom dim (e ∷ es) (m ∷ ms) = IsMendedFrom dim e m × AreMendedFrom dim es ms
AreMendedFrom dim es ms = ⊥

-- elements stay elements, each in its place
abbrev pub MendedElementsKeepTheirPlaces : Type 0
MendedElementsKeepTheirPlaces =
    (f : List ℕ) (dim : ℕ) (es : List Element) (t : List ℕ) → Opens f dim es t
    → (length (mend dim es) ≡ length es) × (map size_of (mend dim es) ≡ map size_of es) × AreMendedFrom dim es (mend dim es)

-- what is left opens in the same dimension, with the same tail
abbrev pub MendedDrawingsOpen : Type 0
MendedDrawingsOpen =
    (f : List ℕ) (dim : ℕ) (es : List Element) (t : List ℕ) → Opens f dim es t → Opens (spelling (mend dim es) ++ t) dim (mend dim es) t

-- the bytes after mending: they are those before with its puts laid, which rise in them; and each byte in none of their
-- fields stays
pub record ChangesHeaders (dim : ℕ) (es : List Element) : Type 0 where
  pub long : length (spelling (mend dim es)) ≡ length (spelling es)
  pub written : write (spelling es) (mend_puts dim es) ≡ spelling (mend dim es)
  pub rise : Rise 0 (mend_fields dim es) (length (spelling es))
  pub stays : (k : ℕ) → All (λ f. ¬ IsIn f k) (mend_fields dim es) → slice_index (spelling (mend dim es)) k ≡ slice_index (spelling es) k

abbrev pub MendingChangesHeaders : Type 0
MendingChangesHeaders = (f : List ℕ) (dim : ℕ) (es : List Element) (t : List ℕ) → Opens f dim es t → ChangesHeaders dim es

-- no header of trees is loose
abbrev pub HasNoLoose : Forest Element → Type 0
HasNoLoose NoTree = Unit {0}
HasNoLoose (Tree knot h below behind) = IsFalse (is_loose knot) × HasNoLoose below × HasNoLoose behind

-- whether there are trees
abbrev pub has_trees : Forest Element → Bool
has_trees NoTree = false
has_trees (Tree knot h below behind) = true

-- a tree behind others has no broken number: none of its headers is loose, and its head has no bit C unless it is the first
-- element of all
pub record IsSoundBehind (before : Forest Element) (knot : Knot) (h : Element) (below : Forest Element) : Type 0 where
  pub whole : HasNoLoose (Tree knot h below NoTree)
  pub free : IsTrue (has_trees before) → IsFalse h.cbit

-- the elements of a tree without a broken number stand in the mended drawing, as they are, where they stood
abbrev pub SoundTreesStay : Type 0
SoundTreesStay =
    (f : List ℕ) (dim : ℕ) (es : List Element) (t : List ℕ) (before behind : Forest Element) (knot : Knot) (h : Element) (below : Forest Element)
    → Opens f dim es t → forest row_of es ≡ joined before (Tree knot h below behind) → IsSoundBehind before knot h below
    → (first : List Element) × (last : List Element) × (length first ≡ length (flat before)) × (mend dim es ≡ first ++ ((h ∷ flat below) ++ last))

-- of elements and what mending makes of them, in their order: each that changes is followed by the members that its total
-- asks for, so it is a group wherever these are read with it
abbrev pub HaveMembers : List Element → List Element → Type 0
HaveMembers [] [] = Unit {0}
HaveMembers (e ∷ es) (m ∷ ms) = (IsTrue (has_changed e m) → (k : ℕ) × AreMembers row_of m ms k) × HaveMembers es ms
HaveMembers es ms = ⊥

abbrev pub ChangedHeadersHaveMembers : Type 0
ChangedHeadersHaveMembers = (f : List ℕ) (dim : ℕ) (es : List Element) (t : List ℕ) → Opens f dim es t → HaveMembers es (mend dim es)
