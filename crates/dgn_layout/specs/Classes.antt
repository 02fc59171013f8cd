-- The class of each element type. It says what the body of such an element holds, and so which of its
-- fields are read and which are coordinates.
use Rattle.std.specs.Prelude.{ℕ, ◌==◌, Bool, true, false, ◌||◌, List, [], ◌∷◌, if◌then◌else◌}
use Rattle.dgn_layout.specs.declared.types.Class.{Class}
use Rattle.dgn_layout.specs.declared.types.Class.TheVariants.{Vertices, Words, Counted, Run, Floating, Boxed, Silent}

-- whether a type is one of those listed
abbrev pub is_among : ℕ → List ℕ → Bool
is_among kind [] = false
is_among kind (k ∷ ks) = kind == k || is_among kind ks

-- the table of classes: a type has the class that lists it, and is silent where none does
abbrev pub class_of : ℕ → Class
class_of kind =
    if is_among kind (3 ∷ 4 ∷ 6 ∷ 11 ∷ []) then Vertices
    else if is_among kind (17 ∷ []) then Words
    else if is_among kind (2 ∷ 7 ∷ 12 ∷ 14 ∷ 18 ∷ 19 ∷ []) then Counted
    else if is_among kind (24 ∷ 27 ∷ 34 ∷ []) then Run
    else if is_among kind (15 ∷ 16 ∷ 23 ∷ []) then Floating
    else if is_among kind (22 ∷ 33 ∷ 35 ∷ []) then Boxed
    else Silent

-- whether nothing is read of the bodies of a class, nor a display header
abbrev pub is_silent : Class → Bool
is_silent Class.Silent = true
is_silent other = false
