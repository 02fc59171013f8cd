-- Linkages: the pieces that the attribute data of an element is made of, by the first two bytes of each.
use Rattle.std.specs.Prelude.{ℕ, zero, suc, ◌+◌, ◌*◌, ◌/◌, ◌%◌, ◌==◌, ◌&&◌, ◌||◌, nat_lt, nat_le, if◌then◌else◌, List, [], ◌∷◌, length, drop, slice_index}
use Rattle.std.specs.Prelude.{Option, Some, None}
use Rattle.dgn_linkage.specs.declared.types.form.Form.{Form}
use Rattle.dgn_linkage.specs.declared.types.form.Form.TheVariants.{Dmrs, User, Rest}
use Rattle.dgn_linkage.specs.declared.types.link.Link.{Link}

-- the form and the length that the first two bytes announce, or none
abbrev pub announced : ℕ → ℕ → Option (Form × ℕ)
announced b0 b1 =
    if b0 == 0 && (b1 == 0 || b1 == 128)
    then Some (Dmrs, 8)
    else (if b1 / 16 % 2 == 1 then Some (User, 2 + 2 * b0) else None)

-- the linkage at place `at`, with r bytes left: what is announced where it fits, else all r bytes
abbrev pub taken : ℕ → ℕ → Option (Form × ℕ) → Link
taken at r None = record { at = at; len = r; form = Rest }
taken at r (Some what) =
    if nat_le what.1 r
    then record { at = at; len = what.1; form = what.0 }
    else record { at = at; len = r; form = Rest }

-- the linkage at place `at`, where `rest` is the data from there on
abbrev pub first_link_of : ℕ → List ℕ → Link
first_link_of at rest =
    if nat_lt (length rest) 4
    then taken at (length rest) None
    else taken at (length rest) (announced (slice_index rest 0) (slice_index rest 1))

-- the linkages from place `at` on, at most n of them, where `rest` is the data from there on
unfoldable pub linkages_within : ℕ → ℕ → List ℕ → List Link
linkages_within zero at rest = []
linkages_within (suc n) at [] = []
linkages_within (suc n) at (b ∷ bs) =
    let link = first_link_of at (b ∷ bs) in
    link ∷ linkages_within n (at + link.len) (drop link.len (b ∷ bs))

-- all linkages from place `at` on: there are at most as many as bytes
abbrev pub linkages_from : ℕ → List ℕ → List Link
linkages_from at rest = linkages_within (length rest) at rest

-- the linkages of the attribute data b
abbrev pub linkages_of : List ℕ → List Link
linkages_of b = linkages_from 0 b
