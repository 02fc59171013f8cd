-- The numbers of what is shown, found from the last element back to the first, by what each element's first bytes say.
use Rattle.std.specs.Prelude.{ℕ, ◌==◌, ◌&&◌, not, Bool, true, false, nat_lt, if◌then◌else◌, List, [], ◌∷◌, ◌++◌, map}
use Rattle.dgn_layout.specs.Classes.{class_of, is_silent}
use Rattle.dgn_drawing.specs.declared.types.item.Item.{Item}
use Rattle.dgn_drawing.specs.declared.mask.Mask.{Mask}
use Rattle.dgn_drawing.specs.Element.{Element}
use Rattle.dgn_drawing.specs.Shown.{shows}
use Rattle.nest_tree.specs.declared.knot.Knot.{Knot}
use Rattle.dgn_layout.specs.declared.TheConstants.{SHARED_CELL}

-- the numbers of items
abbrev pub numbers_of : List Item → List ℕ
numbers_of items = map (λ (i : Item). i.number) items

-- a number alone, or none
abbrev pub alone_if : Bool → ℕ → List ℕ
alone_if true number = number ∷ []
alone_if false number = []

-- whether an element has an item, by its type
abbrev pub has_item : ℕ → Bool
has_item kind = not (is_silent (class_of kind)) && not (kind == SHARED_CELL)

-- whether it shows its item by itself
abbrev pub is_alone : Mask → Element → Bool
is_alone mask e = (not e.deleted && shows mask e.level) && has_item e.kind

-- whether the first of the numbers, if there is one, is below `end`
abbrev pub first_below : ℕ → List ℕ → Bool
first_below end [] = false
first_below end (n ∷ ns) = nat_lt n end

-- the numbers without those in front that are below `end`
abbrev pub numbers_past : ℕ → List ℕ → List ℕ
numbers_past end [] = []
numbers_past end (n ∷ ns) = if nat_lt n end then numbers_past end ns else n ∷ ns

-- a group's number before those of what is shown behind it, of which those below `end` are its members'
abbrev pub with_group_number : ℕ → ℕ → Element → List ℕ → List ℕ
with_group_number number end e found =
    if e.deleted then numbers_past end found else alone_if (first_below end found && has_item e.kind) number ++ found

-- an element's number before those of what is shown behind it; a run's before those of what is shown behind its parts
abbrev pub with_number : Mask → Knot → ℕ → ℕ → Element → List ℕ → List ℕ
with_number mask Knot.Leaf number end e found = alone_if (is_alone mask e) number ++ found
with_number mask Knot.Group number end e found = with_group_number number end e found
with_number mask Knot.Run number end e found = alone_if (is_alone mask e) number ++ numbers_past end found
with_number mask Knot.Loose number end e found = found
