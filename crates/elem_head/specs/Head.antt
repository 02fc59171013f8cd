-- What the first bytes of an element say of it, and what its display header says of its look, its
-- properties and its attribute data. b is the bytes of the element from its first one on.
use Rattle.std.specs.Prelude.{ℕ, ◌+◌, ◌*◌, ◌/◌, ◌%◌, ◌==◌, Bool, List, slice_index}
use Rattle.elem_head.specs.declared.types.Head.{Head}
use Rattle.elem_head.specs.declared.types.Symb.{Symb}
use Rattle.dgn_words.specs.Numbers.{word_at}

-- the level: bits 0 to 5 of byte 0
abbrev pub level_of : List ℕ → ℕ
level_of b = slice_index b 0 % 64

-- bit C, by which an element says that it belongs to a header before it: bit 7 of byte 0
abbrev pub has_bit_c : List ℕ → Bool
has_bit_c b = slice_index b 0 / 128 % 2 == 1

-- the type: bits 0 to 6 of byte 1
abbrev pub kind_of : List ℕ → ℕ
kind_of b = slice_index b 1 % 128

-- whether the element is marked deleted: bit 7 of byte 1
abbrev pub is_deleted : List ℕ → Bool
is_deleted b = slice_index b 1 / 128 % 2 == 1

-- how many words follow the first two: the word at byte 2
abbrev pub words_after : List ℕ → ℕ
words_after b = word_at b 2

-- the size of the whole element, in bytes
abbrev pub size_of : List ℕ → ℕ
size_of b = 4 + 2 * words_after b

-- the head as a whole
abbrev pub head_of : List ℕ → Head
head_of b = record {
  level = level_of b;
  cbit = has_bit_c b;
  kind = kind_of b;
  deleted = is_deleted b;
  words = words_after b;
}

-- the style: bits 0 to 2 of byte 34
abbrev pub style_of : List ℕ → ℕ
style_of b = slice_index b 34 % 8

-- the weight: bits 3 to 7 of byte 34
abbrev pub weight_of : List ℕ → ℕ
weight_of b = slice_index b 34 / 8 % 32

-- the colour: byte 35
abbrev pub colour_of : List ℕ → ℕ
colour_of b = slice_index b 35

-- the symbology as a whole
abbrev pub symbology_of : List ℕ → Symb
symbology_of b = record {
  color = colour_of b;
  weight = weight_of b;
  style = style_of b;
}

-- the properties: the word at byte 32
abbrev pub properties_of : List ℕ → ℕ
properties_of b = word_at b 32

-- whether attribute data follow: bit 11 of the properties, 0x0800
abbrev pub has_attributes : List ℕ → Bool
has_attributes b = properties_of b / 2048 % 2 == 1

-- the byte at which attribute data begin: byte 32, and as many words on as the word at byte 30 says
abbrev pub attributes_start : List ℕ → ℕ
attributes_start b = 32 + 2 * word_at b 30
