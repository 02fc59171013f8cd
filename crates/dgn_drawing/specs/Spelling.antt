-- The bytes of an element: its pieces, joined in the order of the format's tables of the element and of
-- the bodies.
use Rattle.std.specs.Prelude.{ℕ, ◌+◌, ◌-◌, ◌*◌, ◌/◌, Bool, if◌then◌else◌, ℤ, List, [], ◌∷◌, ◌++◌, length}
use Rattle.std.specs.List.{flat_map}
use Rattle.dgn_words.specs.Numbers.{word_bytes, long_bytes, range_long_bytes}
use Rattle.dgn_drawing.specs.Element.{Display, Parts, Line, Points, Text, Node, Cell, Header, Plain, Body, Silent, Shown, Element, rest_of}

-- a bit: its value where it is set
abbrev pub bit : ℕ → Bool → ℕ
bit value set = if set then value else 0

-- byte 0: the level, the reserved bit and bit C
abbrev pub first_byte : Element → ℕ
first_byte e = e.level + bit 64 e.bit6 + bit 128 e.cbit

-- byte 1: the type and the deleted bit
abbrev pub second_byte : Element → ℕ
second_byte e = e.kind + bit 128 e.deleted

-- a point: a long for each of its numbers
abbrev pub point_bytes : List ℤ → List ℕ
point_bytes point = flat_map long_bytes point

-- the display part: the two corners in range numbers, three words, style and weight in one byte, colour
unfoldable pub display_bytes : Display → List ℕ
display_bytes d =
    flat_map range_long_bytes d.low ++ (flat_map range_long_bytes d.high
    ++ (word_bytes d.group ++ (word_bytes d.index ++ (word_bytes d.properties
    ++ ((d.style + 8 * d.weight) ∷ d.color ∷ [])))))

-- the parts of each type
unfoldable pub parts_bytes : Parts → List ℕ
parts_bytes (Line points) = flat_map point_bytes points
parts_bytes (Points points) = word_bytes (length points) ++ flat_map point_bytes points
parts_bytes (Text run origin spare chars) = run ++ (point_bytes origin ++ (length chars ∷ spare ∷ chars))
parts_bytes (Node total run origin) = word_bytes total ++ (run ++ point_bytes origin)
parts_bytes (Cell total name run origin) = word_bytes total ++ (flat_map word_bytes name ++ (run ++ point_bytes origin))
parts_bytes (Header total number) = word_bytes total ++ word_bytes number
parts_bytes Plain = []

-- the body, from byte 4 on
unfoldable pub body_bytes : Body → List ℕ
body_bytes (Silent rest) = rest
body_bytes (Shown display parts rest) = display_bytes display ++ (parts_bytes parts ++ rest)

-- the element: two bytes, the number of words that follow, the body
unfoldable pub spell : Element → List ℕ
spell e = first_byte e ∷ second_byte e ∷ (word_bytes (length (body_bytes e.body) / 2) ++ body_bytes e.body)

-- the elements, one behind the other
abbrev pub spelling : List Element → List ℕ
spelling es = flat_map spell es

-- the size of an element in bytes
abbrev pub size_of : Element → ℕ
size_of e = length (spell e)

-- where the rest begins, behind the body: the size without it
abbrev pub rest_start : Element → ℕ
rest_start e = size_of e - length (rest_of e.body)
