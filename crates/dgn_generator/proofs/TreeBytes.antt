-- The bytes of the elements of a generated drawing, as the code joins them.
use Rattle.std.proofs.Common.{◌≡◌, ℕ, ◌+◌, ◌%◌, ◌≤◌, Bool, false, List, [], ◌∷◌, ◌++◌, refl, sym, ap, ◌∙◌, append_assoc, arith}
use Rattle.std.specs.Prelude.{ℤ, pos, codes, replicate}
use Rattle.std.specs.Int.{int_min, int_max}
use Rattle.std.proofs.lemmas.Int.{ints, int_min_is, int_max_is}
use Rattle.dgn_words.specs.Numbers.{word_bytes, long_bytes}
use Rattle.dgn_drawing.specs.declared.new_shape.NewShape.{NewShape}
use Rattle.dgn_drawing.specs.declared.new_shape.NewShape.TheVariants as shapes
use Rattle.dgn_drawing.specs.Element.{Display}
use Rattle.dgn_drawing.specs.Spelling.{bit, point_bytes, display_bytes, parts_bytes, body_bytes, spell}
use Rattle.dgn_drawing.specs.NewElements.{points_given, lowest, highest, element_made}
use Rattle.dgn_generator.specs.Generator.{point, new_at, cell_header, blank_tcb}
use Rattle.dgn_generator.specs.Fronts.{front_at}

-- the lesser and the greater of two numbers in order
lesser : (a b : ℕ) → a ≤ b → int_min (pos a) (pos b) ≡ pos a
lesser a b up = omega (arith, ints, int_min_is (pos a) (pos b))

lesser_down : (a b : ℕ) → b ≤ a → int_min (pos a) (pos b) ≡ pos b
lesser_down a b down = omega (arith, ints, int_min_is (pos a) (pos b))

greater : (a b : ℕ) → a ≤ b → int_max (pos a) (pos b) ≡ pos b
greater a b up = omega (arith, ints, int_max_is (pos a) (pos b))

greater_down : (a b : ℕ) → b ≤ a → int_max (pos a) (pos b) ≡ pos a
greater_down a b down = omega (arith, ints, int_max_is (pos a) (pos b))

-- three equal numbers
corners : (a b c d : ℤ) → a ≡ c → b ≡ d → (a ∷ b ∷ pos 0 ∷ []) ≡ (c ∷ d ∷ pos 0 ∷ [])
corners a b c d one two = cc

-- the least and the greatest coordinates of two points
abbrev lower_of : List ℤ → List ℤ → List ℤ
lower_of p q = lowest (p ∷ q ∷ [])

abbrev upper_of : List ℤ → List ℤ → List ℤ
upper_of p q = highest (p ∷ q ∷ [])

-- those of two points of which one is neither right of the other nor above it
least_left : (a b c d : ℕ) → a ≤ c → b ≤ d → lower_of (point a b) (point c d) ≡ point a b
least_left a b c d right up = corners (int_min (pos a) (pos c)) (int_min (pos b) (pos d)) (pos a) (pos b) (lesser a c right) (lesser b d up)

least_right : (a b c d : ℕ) → c ≤ a → d ≤ b → lower_of (point a b) (point c d) ≡ point c d
least_right a b c d left down = corners (int_min (pos a) (pos c)) (int_min (pos b) (pos d)) (pos c) (pos d) (lesser_down a c left) (lesser_down b d down)

greatest_right : (a b c d : ℕ) → a ≤ c → b ≤ d → upper_of (point a b) (point c d) ≡ point c d
greatest_right a b c d right up = corners (int_max (pos a) (pos c)) (int_max (pos b) (pos d)) (pos c) (pos d) (greater a c right) (greater b d up)

greatest_left : (a b c d : ℕ) → c ≤ a → d ≤ b → upper_of (point a b) (point c d) ≡ point a b
greatest_left a b c d left down = corners (int_max (pos a) (pos c)) (int_max (pos b) (pos d)) (pos a) (pos b) (greater_down a c left) (greater_down b d down)

-- a display part with these corners
display_of : ℕ → ℕ → List ℤ → List ℤ → Display
display_of i index low high = record { low = low; high = high; group = 0; index = index; properties = 0; style = 0; weight = 0; color = i % 16 }

-- the bytes of an element whose corners are known
module _ (i x y width height : ℕ) (shape : NewShape) (low : lowest (points_given shape) ≡ point x y)
    (high : highest (points_given shape) ≡ point (x + width) (y + height)) where
  -- its display part
  shown : (rest : Display → List ℕ) (index : ℕ)
      → rest (display_of i index (lowest (points_given shape)) (highest (points_given shape)))
      ≡ rest (display_of i index (point x y) (point (x + width) (y + height)))
  shown rest index =
      ap (λ (p : List ℤ). rest (display_of i index p (highest (points_given shape)))) low
      ∙ ap (λ (p : List ℤ). rest (display_of i index (point x y) p)) high

-- a line
pub line_spelled : (i x y width height : ℕ) (c : Bool)
    → spell (record (element_made (new_at i (shapes.Line (point x y ∷ point (x + width) (y + height) ∷ [])))) { cbit = c })
    ≡ front_at i x y c 3 52 width height ++ (point_bytes (pos x ∷ pos y ∷ []) ++ point_bytes (pos (x + width) ∷ pos (y + height) ∷ []))
unfolding spell body_bytes parts_bytes display_bytes display_of
line_spelled i x y width height c =
    shown i x y width height (shapes.Line (point x y ∷ point (x + width) (y + height) ∷ []))
    (least_left x y (x + width) (y + height) (omega arith) (omega arith))
    (greatest_right x y (x + width) (y + height) (omega arith) (omega arith))
    (λ (d : Display). (1 + i % 8 + bit 64 false + bit 128 c) ∷ 3 ∷
    (word_bytes 24 ++ (display_bytes d ++ (point_bytes (pos x ∷ pos y ∷ []) ++ point_bytes (pos (x + width) ∷ pos (y + height) ∷ [])))))
    10

-- a chain
pub chain_spelled : (i x y : ℕ) → spell (element_made (new_at i (shapes.Chain (point x y ∷ point (x + 10) y ∷ point (x + 10) (y + 10) ∷ []))))
    ≡ front_at i x y false 4 62 10 10
    ++ (word_bytes 3 ++ (point_bytes (pos x ∷ pos y ∷ []) ++ (point_bytes (pos (x + 10) ∷ pos y ∷ []) ++ point_bytes (pos (x + 10) ∷ pos (y + 10) ∷ []))))
unfolding spell body_bytes parts_bytes display_bytes display_of
chain_spelled i x y =
    shown i x y 10 10 (shapes.Chain (point x y ∷ point (x + 10) y ∷ point (x + 10) (y + 10) ∷ []))
    (ap (lower_of (point x y)) (least_left (x + 10) y (x + 10) (y + 10) (omega arith) (omega arith))
    ∙ least_left x y (x + 10) y (omega arith) (omega arith))
    (ap (upper_of (point x y)) (greatest_right (x + 10) y (x + 10) (y + 10) (omega arith) (omega arith))
    ∙ greatest_right x y (x + 10) (y + 10) (omega arith) (omega arith))
    (λ (d : Display). (1 + i % 8 + bit 64 false + bit 128 false) ∷ 4 ∷ (word_bytes 29 ++ (display_bytes d
    ++ (word_bytes 3 ++ (point_bytes (pos x ∷ pos y ∷ []) ++ (point_bytes (pos (x + 10) ∷ pos y ∷ []) ++ point_bytes (pos (x + 10) ∷ pos (y + 10) ∷ [])))))))
    15

-- a shape
pub shape_spelled : (i x y : ℕ) → spell (element_made (new_at i (shapes.Shape (point x y ∷ point (x + 20) y ∷ point (x + 20) (y + 20) ∷ point x y ∷ []))))
    ≡ front_at i x y false 6 70 20 20 ++ (word_bytes 4 ++ (point_bytes (pos x ∷ pos y ∷ []) ++ (point_bytes (pos (x + 20) ∷ pos y ∷ [])
    ++ (point_bytes (pos (x + 20) ∷ pos (y + 20) ∷ []) ++ point_bytes (pos x ∷ pos y ∷ [])))))
unfolding spell body_bytes parts_bytes display_bytes display_of
shape_spelled i x y =
    shown i x y 20 20 (shapes.Shape (point x y ∷ point (x + 20) y ∷ point (x + 20) (y + 20) ∷ point x y ∷ []))
    (ap (λ (p : List ℤ). lower_of (point x y) (lower_of (point (x + 20) y) p)) (least_right (x + 20) (y + 20) x y (omega arith) (omega arith))
    ∙ ap (lower_of (point x y)) (least_right (x + 20) y x y (omega arith) (omega arith))
    ∙ least_left x y x y (omega arith) (omega arith))
    (ap (λ (p : List ℤ). upper_of (point x y) (upper_of (point (x + 20) y) p)) (greatest_left (x + 20) (y + 20) x y (omega arith) (omega arith))
    ∙ ap (upper_of (point x y)) (greatest_right (x + 20) y (x + 20) (y + 20) (omega arith) (omega arith))
    ∙ greatest_right x y (x + 20) (y + 20) (omega arith) (omega arith))
    (λ (d : Display). (1 + i % 8 + bit 64 false + bit 128 false) ∷ 6 ∷ (word_bytes 33 ++ (display_bytes d
    ++ (word_bytes 4 ++ (point_bytes (pos x ∷ pos y ∷ [])
    ++ (point_bytes (pos (x + 20) ∷ pos y ∷ []) ++ (point_bytes (pos (x + 20) ∷ pos (y + 20) ∷ []) ++ point_bytes (pos x ∷ pos y ∷ []))))))))
    19

-- a text
pub text_spelled : (i x y : ℕ) → spell (element_made (new_at i (shapes.Text 1 0 (pos 1000) (pos 1000) (point x y) (codes "DGN"))))
    ≡ front_at i x y false 17 64 0 0
    ++ ((1 ∷ 0 ∷ []) ++ (long_bytes (pos 1000)
    ++ (long_bytes (pos 1000) ++ (long_bytes (pos 0) ++ (point_bytes (pos x ∷ pos y ∷ []) ++ (3 ∷ 0 ∷ 68 ∷ 71 ∷ 78 ∷ 0 ∷ []))))))
unfolding spell body_bytes parts_bytes display_bytes display_of
text_spelled i x y =
    shown i x y 0 0 (shapes.Text 1 0 (pos 1000) (pos 1000) (point x y) (codes "DGN"))
    refl (corners (pos x) (pos y) (pos (x + 0)) (pos (y + 0)) (ap pos (omega arith)) (ap pos (omega arith)))
    (λ (d : Display). (1 + i % 8 + bit 64 false + bit 128 false) ∷ 17 ∷ (word_bytes 30 ++ (display_bytes d
    ++ ((1 ∷ 0 ∷ []) ++ (long_bytes (pos 1000)
    ++ (long_bytes (pos 1000) ++ (long_bytes (pos 0) ++ (point_bytes (pos x ∷ pos y ∷ []) ++ (3 ∷ 0 ∷ 68 ∷ 71 ∷ 78 ∷ 0 ∷ [])))))))))
    16

-- the header of a cell
pub header_spelled : (i x y : ℕ) → spell (cell_header i x y)
    ≡ front_at i x y false 2 92 30 30 ++ (word_bytes 79 ++ (word_bytes 11414 ++ (replicate 44 0 ++ point_bytes (pos x ∷ pos y ∷ []))))
unfolding spell body_bytes parts_bytes display_bytes
header_spelled i x y = refl

-- the TCB
tcb_spelled : spell blank_tcb ≡ (0x08 ∷ 0x09 ∷ 0xFE ∷ 0x02 ∷ []) ++ replicate 1532 0
unfolding spell body_bytes blank_tcb
tcb_spelled = refl

pub tcb_pushed : (old mid all : List ℕ) → mid ≡ old ++ (0x08 ∷ 0x09 ∷ 0xFE ∷ 0x02 ∷ []) → all ≡ mid ++ replicate 1532 0 → all ≡ old ++ spell blank_tcb
tcb_pushed old mid all front zeros =
    zeros ∙ ap (λ (b : List ℕ). b ++ replicate 1532 0) front
    ∙ append_assoc old (0x08 ∷ 0x09 ∷ 0xFE ∷ 0x02 ∷ []) (replicate 1532 0)
    ∙ ap (λ (b : List ℕ). old ++ b) (sym tcb_spelled)

-- two pieces that are put behind others
pub two_pushed : (old mid all front rest first behind whole : List ℕ) → mid ≡ old ++ front → all ≡ mid ++ rest → front ≡ first → rest ≡ behind
    → whole ≡ first ++ behind → all ≡ old ++ whole
two_pushed old mid all front rest first behind whole is_mid is_all is_first is_behind is_whole =
    is_all ∙ ap (λ (b : List ℕ). b ++ rest) is_mid ∙ append_assoc old front rest
    ∙ ap (λ (b : List ℕ). old ++ (b ++ rest)) is_first ∙ ap (λ (b : List ℕ). old ++ (first ++ b)) is_behind
    ∙ ap (λ (b : List ℕ). old ++ b) (sym is_whole)
