-- The first bytes of an element of a generated drawing, as the code joins them.
use Rattle.std.specs.Prelude.{ℕ, ◌+◌, ◌-◌, ◌/◌, ◌%◌, Bool, false, List, ◌∷◌, ◌++◌}
use Rattle.dgn_words.specs.Numbers.{word_bytes}
use Rattle.dgn_drawing.specs.Spelling.{bit, display_bytes}
use Rattle.dgn_generator.specs.Generator.{display_at}

-- the first 36 bytes of an element of this type and size, with bit C or without
abbrev pub front_at : (i x y : ℕ) (bit_c : Bool) (kind size width height : ℕ) → List ℕ
front_at i x y bit_c kind size width height =
    (1 + i % 8 + bit 64 false + bit 128 bit_c) ∷ kind
    ∷ (word_bytes ((size - 4) / 2) ++ display_bytes (display_at i x y width height ((size - 32) / 2)))
