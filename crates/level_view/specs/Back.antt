-- What is shown, found from the last element back to the first: each element is read before what the
-- elements behind it show, which is known by then. Contracts of private functions alone cite this.
use Rattle.std.specs.Prelude.{ℕ, zero, suc, ◌+◌, ◌≡◌, Bool, false, nat_lt, if◌then◌else◌, Option, Some, List, [], ◌∷◌, ◌++◌, slice_get}
use Rattle.dgn_drawing.specs.declared.types.item.Item.{Item}
use Rattle.dgn_drawing.specs.declared.mask.Mask.{Mask}
use Rattle.dgn_drawing.specs.Element.{Element}
use Rattle.dgn_drawing.specs.Reading.{element_at}
use Rattle.dgn_drawing.specs.Faults.{HasNoFaultIn}
use Rattle.dgn_drawing.specs.Rows.{row_of}
use Rattle.dgn_drawing.specs.Numbering.{Mark, mark_of}
use Rattle.dgn_drawing.specs.Shown.{its_item, shown_alone}
use Rattle.nest_tree.specs.declared.knot.Knot.{Knot}
use Rattle.nest_tree.specs.Shapes.{code_knot}
use Rattle.level_view.specs.declared.place.Place.{Place}

-- whether the first of the items, if there is one, has a number below `end`
abbrev pub begins_below : ℕ → List Item → Bool
begins_below end [] = false
begins_below end (item ∷ items) = nat_lt item.number end

-- the items without those in front that have numbers below `end`
abbrev pub past : ℕ → List Item → List Item
past end [] = []
past end (item ∷ items) = if nat_lt item.number end then past end items else item ∷ items

-- a group's header before what is shown behind it, of which what has numbers below `end` is its members'
abbrev pub with_group : ℕ → ℕ → ℕ → ℕ → Element → List Item → List Item
with_group dim number depth end e found =
    if e.deleted then past end found
    else if begins_below end found then its_item dim number depth e ++ found else found

-- an element before what is shown behind it; a run's header before what is shown behind its parts
abbrev pub with_element : ℕ → Mask → Knot → ℕ → ℕ → ℕ → Element → List Item → List Item
with_element dim mask Knot.Leaf number depth end e found = shown_alone dim mask number depth e ++ found
with_element dim mask Knot.Group number depth end e found = with_group dim number depth end e found
with_element dim mask Knot.Run number depth end e found = shown_alone dim mask number depth e ++ past end found
with_element dim mask Knot.Loose number depth end e found = found

-- the same of the element that has that number and that mark
abbrev pub with_marked : ℕ → Mask → ℕ → Option Mark → Option Element → List Item → List Item
with_marked dim mask number (Some m) (Some e) found = with_element dim mask (code_knot m.knot) number m.depth m.end e found
with_marked dim mask number marked element found = found

-- what so many elements show, of which the first has number n
abbrev pub read_back : ℕ → Mask → List Element → ℕ → ℕ → List Item
read_back dim mask es n zero = []
read_back dim mask es n (suc count) = with_marked dim mask n (mark_of row_of es n) (slice_get es n) (read_back dim mask es (n + 1) count)

-- the place of element n
pub record IsPlace (dim : ℕ) (es : List Element) (n : ℕ) (p : Place) : Type 0 where
  pub number : p.number ≡ n
  pub mark : Mark
  pub marked : mark_of row_of es n ≡ Some mark
  pub element : slice_get es n ≡ Some (element_at dim p.bytes.now)
  pub knot : p.knot ≡ code_knot mark.knot
  pub depth : p.depth ≡ mark.depth
  pub end : p.end ≡ mark.end
  pub sound : HasNoFaultIn dim p.bytes.now
