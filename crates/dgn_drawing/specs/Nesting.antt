-- How the elements of a drawing nest: as trees, read from the front of a list. Nesting looks at the row of
-- each element alone, so it is said of anything that has a row.
use Rattle.std.specs.Prelude.{ℕ, zero, suc, ◌≡◌, ◌+◌, ◌-◌, ◌*◌, ◌≤◌, ◌==◌, ◌&&◌, nat_le, IsTrue, IsFalse, Bool, true, false, if◌then◌else◌, Option, Some}
use Rattle.std.specs.Prelude.{None, option_map, List, [], ◌∷◌, ◌++◌, length, take, drop}
use Rattle.std.specs.List.{AllByRecursion}
use Rattle.dgn_layout.specs.declared.types.Class.{Class}
use Rattle.dgn_layout.specs.Classes.{class_of, is_among}
use Rattle.dgn_drawing.specs.declared.row.Row.{Row}
use Rattle.dgn_layout.specs.declared.TheConstants.{SHARED_CELL}

-- what an element is in its tree: one that has nothing below it; a counted header over the members that its
-- total asks for; the header of a run, over its parts; a counted header that no such members follow
pub data Knot : Type 0 where
  Leaf : Knot
  Group : Knot
  Run : Knot
  Loose : Knot

-- no tree, or a first tree and the trees behind it: what its head is, the head, and the trees below the head
pub data Forest (A : Type 0) : Type 0 where
  NoTree : Forest A
  Tree : Knot → A → Forest A → Forest A → Forest A

-- the list that is read: that of all elements, members of a header, or the parts of a B-spline
pub data Scope : Type 0 where
  Whole : Scope
  Members : Scope
  Parts : Scope

abbrev pub is_all : Scope → Bool
is_all Whole = true
is_all other = false

abbrev pub is_parts : Scope → Bool
is_parts Parts = true
is_parts other = false

-- whether headers of a class count their members
abbrev pub is_counted : Class → Bool
is_counted Class.Counted = true
is_counted other = false

-- whether elements of a class can have others below them
abbrev pub is_header : Class → Bool
is_header Class.Counted = true
is_header Class.Run = true
is_header other = false

-- how many bytes elements have together
abbrev pub bytes_of : {A : Type 0} → (A → Row) → List A → ℕ
bytes_of row [] = 0
bytes_of row (e ∷ es) = (row e).size + bytes_of row es

-- how many bytes a counted header and its members have together: its total counts the words behind byte 38
abbrev pub whole_of : Row → ℕ
whole_of h = 38 + 2 * h.total

-- the first k of the elements that follow a counted header are its members
pub record AreMembers {A : Type 0} (row : A → Row) (h : A) (r : List A) (k : ℕ) : Type 0 where
  pub within : k ≤ length r
  pub marked : AllByRecursion (λ e. IsTrue ((row e).cbit)) (take k r)
  pub bytes : (row h).size + bytes_of row (take k r) ≡ whole_of (row h)

-- how many elements from the front on, all with bit C, have together just so many bytes, if some have
abbrev pub filling : {A : Type 0} → (A → Row) → ℕ → List A → Option ℕ
filling row bytes [] = if bytes == 0 then Some 0 else None
filling row bytes (e ∷ es) =
    if bytes == 0 then Some 0
    else if (row e).cbit && nat_le (row e).size bytes then option_map suc (filling row (bytes - (row e).size) es)
    else None

-- how many of the elements that follow a counted header are its members, if it has any number of them
abbrev pub member_count : {A : Type 0} → (A → Row) → Row → List A → Option ℕ
member_count row h r = if nat_le h.size (whole_of h) then filling row (whole_of h - h.size) r else None

-- how many elements from the front on pass a test, up to the first that doesn't
abbrev pub front_count : {A : Type 0} → (A → Bool) → List A → ℕ
front_count test [] = 0
front_count test (e ∷ es) = if test e then suc (front_count test es) else 0

-- whether an element is a part where it follows a shared cell definition, and where it follows a B-spline
abbrev pub has_bit : Row → Bool
has_bit r = r.cbit

abbrev pub is_spline_part : Row → Bool
is_spline_part r = r.cbit && is_among r.kind (21 ∷ 25 ∷ 26 ∷ 28 ∷ [])

-- what the first element of a list is, how many of the elements behind it stand below it, and as what list
-- these are read
pub record Shape : Type 0 where
  pub knot : Knot
  pub inside : Scope
  pub count : ℕ

abbrev pub leaf : Shape
leaf = record { knot = Leaf; inside = Members; count = 0 }

abbrev pub run_over : Scope → ℕ → Shape
run_over inside count = record { knot = Run; inside = inside; count = count }

abbrev pub group_or_loose : Option ℕ → Shape
group_or_loose None = record { knot = Loose; inside = Members; count = 0 }
group_or_loose (Some k) = record { knot = Group; inside = Members; count = k }

-- the shape of a first element, by its row, by the number of members that follow it, if any, and by how many
-- parts follow it as behind a B-spline and as behind a shared cell definition
abbrev pub shape_of : Scope → Row → Option ℕ → ℕ → ℕ → Shape
shape_of scope h members spline_parts parts =
    if is_parts scope then leaf
    else if is_counted (class_of h.kind) then group_or_loose members
    else if is_among h.kind (24 ∷ 27 ∷ []) then run_over Parts spline_parts
    else if h.kind == SHARED_CELL && is_all scope then run_over Members parts
    else leaf

abbrev pub shape : {A : Type 0} → (A → Row) → Scope → A → List A → Shape
shape row scope h r =
    shape_of scope (row h) (member_count row (row h) r) (front_count (λ e. is_spline_part (row e)) r) (front_count (λ e. has_bit (row e)) r)

-- the trees of a list, of which at most n elements are read: the first element is the head of a tree over the
-- elements that its shape counts, and reading goes on behind them
unfoldable pub nest_within : {A : Type 0} → (A → Row) → ℕ → Scope → List A → Forest A
nest_within row zero scope l = NoTree
nest_within row (suc n) scope [] = NoTree
nest_within row (suc n) scope (h ∷ r) =
    Tree (shape row scope h r).knot h
    (nest_within row n (shape row scope h r).inside (take (shape row scope h r).count r))
    (nest_within row n scope (drop (shape row scope h r).count r))

-- the trees of a list
abbrev pub nest : {A : Type 0} → (A → Row) → Scope → List A → Forest A
nest row scope l = nest_within row (length l) scope l

-- the trees of all elements, of which the first is a leaf, whatever it is
abbrev pub forest : {A : Type 0} → (A → Row) → List A → Forest A
forest row [] = NoTree
forest row (e ∷ es) = Tree Leaf e NoTree (nest row Whole es)

-- trees behind trees
abbrev pub joined : {A : Type 0} → Forest A → Forest A → Forest A
joined NoTree g = g
joined (Tree knot h below behind) g = Tree knot h below (joined behind g)

-- the elements of trees, each head before what is below it
abbrev pub flat : {A : Type 0} → Forest A → List A
flat NoTree = []
flat (Tree knot h below behind) = h ∷ (flat below ++ flat behind)

-- the same trees of what is made of each element
abbrev pub forest_map : {A B : Type 0} → (A → B) → Forest A → Forest B
forest_map f NoTree = NoTree
forest_map f (Tree knot h below behind) = Tree knot (f h) (forest_map f below) (forest_map f behind)

-- what is read behind other elements can't belong to one of them: its first element, if it has one, has no bit C
abbrev pub BeginsFree : {A : Type 0} → (A → Row) → List A → Type 0
BeginsFree row [] = Unit {0}
BeginsFree row (e ∷ es) = IsFalse (row e).cbit

-- the row of a row
abbrev pub itself : Row → Row
itself r = r
