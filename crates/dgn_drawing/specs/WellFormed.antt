-- When a record is an element of a design file of 2 or 3 dimensions: each piece has the values and the
-- length that its field can hold, and attribute data begin within the element and behind its body.
use Rattle.std.specs.Prelude.{ℕ, ◌≡◌, ◌+◌, ◌*◌, ◌/◌, ◌%◌, ◌<◌, ◌≤◌, ◌==◌, ◌&&◌, ◌⊎◌, IsTrue, IsFalse, Bool, if◌then◌else◌, ℤ, List, length, slice_index}
use Rattle.std.specs.List.{All, AllByRecursion}
use Rattle.range_code.specs.Plane.{is_on_plane}
use Rattle.dgn_drawing.specs.Element.{Display, Parts, Line, Points, Text, Node, Cell, Header, Plain, Body, Silent, Shown, Element, form_of_body}
use Rattle.dgn_drawing.specs.Forms.{form_of}
use Rattle.dgn_drawing.specs.Spelling.{spell, size_of, rest_start}

-- the dimensions that a design file can have
abbrev pub IsDimension : ℕ → Type 0
IsDimension dim = (dim ≡ 2) ⊎ (dim ≡ 3)

-- each is a byte
abbrev pub IsBytes : List ℕ → Type 0
IsBytes b = All (λ x. x < 256) b

-- a run of n bytes
pub record IsRun (n : ℕ) (run : List ℕ) : Type 0 where
  pub long : length run ≡ n
  pub bytes : IsBytes run

-- a coordinate of the design plane
abbrev pub IsCoordinate : ℤ → Type 0
IsCoordinate v = IsTrue (is_on_plane v)

-- a point with so many numbers, all of the design plane
pub record IsPoint (axes : ℕ) (point : List ℤ) : Type 0 where
  pub long : length point ≡ axes
  pub on_plane : AllByRecursion IsCoordinate point

-- the fields of the display part hold their values
pub record IsDisplay (d : Display) : Type 0 where
  pub low : IsPoint 3 d.low
  pub high : IsPoint 3 d.high
  pub group : d.group < 65536
  pub index : d.index < 65536
  pub properties : d.properties < 65536
  pub style : d.style < 8
  pub weight : d.weight < 32
  pub color : d.color < 256

-- how many bytes stand before the origin of a text, from the display part on
abbrev pub text_run : ℕ → ℕ
text_run dim = if dim == 2 then 14 else 26

-- how many bytes stand before the origin of a text node, from its total on
abbrev pub node_run : ℕ → ℕ
node_run dim = if dim == 2 then 24 else 36

-- how many bytes stand before the origin of a cell, from its name on
abbrev pub cell_run : ℕ → ℕ
cell_run dim = if dim == 2 then 42 else 70

-- the fields of a text hold their values
pub record IsText (dim : ℕ) (run : List ℕ) (origin : List ℤ) (spare : ℕ) (chars : List ℕ) : Type 0 where
  pub before : IsRun (text_run dim) run
  pub point : IsPoint dim origin
  pub byte : spare < 256
  pub few : length chars ≤ 255
  pub bytes : IsBytes chars

-- the fields of a text node hold their values
pub record IsNode (dim total : ℕ) (run : List ℕ) (origin : List ℤ) : Type 0 where
  pub word : total < 65536
  pub before : IsRun (node_run dim) run
  pub point : IsPoint dim origin

-- the fields of a cell header hold their values
pub record IsCell (dim total : ℕ) (name run : List ℕ) (origin : List ℤ) : Type 0 where
  pub word : total < 65536
  pub name_long : length name ≡ 2
  pub name_words : AllByRecursion (λ w. w < 65536) name
  pub before : IsRun (cell_run dim) run
  pub point : IsPoint dim origin

-- the fields of the parts hold their values
abbrev pub HasParts : ℕ → Parts → Type 0
HasParts dim (Line points) = (length points ≡ 2) × AllByRecursion (IsPoint dim) points
HasParts dim (Points points) = (length points < 65536) × AllByRecursion (IsPoint dim) points
HasParts dim (Text run origin spare chars) = IsText dim run origin spare chars
HasParts dim (Node total run origin) = IsNode dim total run origin
HasParts dim (Cell total name run origin) = IsCell dim total name run origin
HasParts dim (Header total number) = (total < 65536) × (number < 65536)
HasParts dim Plain = Unit {0}

-- the fields of the body hold their values
abbrev pub HasBody : ℕ → Body → Type 0
HasBody dim (Silent rest) = IsBytes rest
HasBody dim (Shown display parts rest) = IsDisplay display × HasParts dim parts × IsBytes rest

-- whether properties say that attribute data follow: bit 11, 0x0800
abbrev pub says_attributes : ℕ → Bool
says_attributes properties = properties / 2048 % 2 == 1

-- attribute data, where there are any, begin neither before the body's end nor behind the element's
abbrev pub HasAttributesInPlace : Element → Body → Type 0
HasAttributesInPlace e (Silent rest) = Unit {0}
HasAttributesInPlace e (Shown display parts rest) =
    IsTrue (says_attributes display.properties) → (rest_start e ≤ 32 + 2 * display.index) × (32 + 2 * display.index ≤ size_of e)

-- whether bytes begin with the two bytes FF FF, which end the run of elements
abbrev pub begins_with_mark : List ℕ → Bool
begins_with_mark b = slice_index b 0 == 255 && slice_index b 1 == 255

-- the record is an element of a file of that dimension
pub record IsWellFormed (dim : ℕ) (e : Element) : Type 0 where
  pub level : e.level < 64
  pub kind : e.kind < 128
  pub form : form_of e.kind ≡ form_of_body e.body
  pub parts : HasBody dim e.body
  pub even : size_of e % 2 ≡ 0
  pub small : size_of e ≤ 131074
  pub no_mark : IsFalse (begins_with_mark (spell e))
  pub attributes : HasAttributesInPlace e e.body
