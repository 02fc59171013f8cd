-- The bytes of an element that is appended, as code joins them.
use Rattle.std.proofs.Common.{◌≡◌, ℕ, ◌-◌, ◌/◌, ◌%◌, List, [], ◌∷◌, ◌++◌, length, take, map, ap, ◌∙◌, sym, append_assoc, cond, ◌⊎◌, inl, inr, arith}
use Rattle.std.specs.Prelude.{ℤ, ◌==◌}
use Rattle.std.specs.List.{flat_map}
use Rattle.std.proofs.lemmas.List.{length-map, append-nil}
use Rattle.dgn_words.specs.Numbers.{word_bytes}
use Rattle.dgn_drawing.specs.declared.new_shape.NewShape.{NewShape}
use Rattle.dgn_drawing.specs.declared.new_shape.NewShape.TheVariants as shapes
use Rattle.dgn_drawing.specs.Element.{Points}
use Rattle.dgn_drawing.specs.Spelling.{first_byte, second_byte, point_bytes, display_bytes, parts_bytes, body_bytes, spell}
use Rattle.dgn_drawing.specs.NewElements.{NewElement, IsNew, size_made, run_made, parts_made, rest_made, display_made, element_made}
use Rattle.dgn_drawing.proofs.MadeElements.{size-made}

-- a row of points, appended
row_joined : (axes : ℕ) (points : List (List ℤ)) (old : List ℕ) → (old ++ word_bytes (length points)) ++ flat_map point_bytes (map (take axes) points) ≡ old
    ++ (parts_bytes (Points (map (take axes) points)) ++ [])
unfolding parts_bytes
row_joined axes points old =
    let behind : List ℕ = flat_map point_bytes (map (take axes) points) in
    append_assoc old (word_bytes (length points)) behind
    ∙ ap (λ (n : ℕ). old ++ (word_bytes n ++ behind)) (sym (length-map points (take axes)))
    ∙ ap (λ (z : List ℕ). old ++ z) (sym (append-nil (word_bytes (length (map (take axes) points)) ++ behind)))

pub row_pushed : (axes : ℕ) {shape : NewShape} {points seen : List (List ℤ)} {n : ℕ} (old : List ℕ) {mid all : List ℕ}
    → (shape ≡ shapes.Chain points) ⊎ (shape ≡ shapes.Shape points) → n ≡ length points → seen ≡ points → mid ≡ old ++ word_bytes n
    → all ≡ mid ++ flat_map point_bytes (map (take axes) seen) → all ≡ old ++ (parts_bytes (parts_made axes shape) ++ rest_made shape)
row_pushed axes {points = points} old (inl chain) count same two three = rw chain (cc (row_joined axes points old))
row_pushed axes {points = points} old (inr closed) count same two three = rw closed (cc (row_joined axes points old))

-- a text's parts and what makes them even, appended
text_joined : (old run point chars : List ℕ) → ((old ++ run) ++ point) ++ (length chars ∷ 0 ∷ (chars ++ (cond (length chars % 2 == 0) [] (0 ∷ []))))
    ≡ old ++ ((run ++ (point ++ (length chars ∷ 0 ∷ chars))) ++ (cond (length chars % 2 == 0) [] (0 ∷ [])))
text_joined old run point chars = simp append_assoc

pub text_pushed : (axes : ℕ) {shape : NewShape} {font just : ℕ} {text_length text_height length_seen height_seen : ℤ} {origin : List ℤ} {chars seen : List ℕ}
    (old : List ℕ) {one two all : List ℕ}
    → shape ≡ shapes.Text font just text_length text_height origin chars → length_seen ≡ text_length → height_seen ≡ text_height → seen ≡ chars
    → one ≡ old ++ run_made axes font just length_seen height_seen → two ≡ one ++ point_bytes (take axes origin)
    → all ≡ two ++ (length seen ∷ 0 ∷ (seen ++ (cond (length seen % 2 == 0) [] (0 ∷ [])))) → all ≡ old
    ++ (parts_bytes (parts_made axes shape) ++ rest_made shape)
unfolding parts_bytes
text_pushed axes {font = font} {just = just} {text_length = wide} {text_height = high} {origin = origin} {chars = chars} old
    is same_length same_height same first second third =
    rw is (cc (text_joined old (run_made axes font just wide high) (point_bytes (take axes origin)) chars))

-- three pieces are the spelling
spell_joined : (new : NewElement) → IsNew new →
    ((first_byte (element_made new) ∷ second_byte (element_made new) ∷ word_bytes ((size_made new.axes new.shape - 4) / 2)) ++ display_bytes (display_made new))
    ++ (parts_bytes (parts_made new.axes new.shape) ++ rest_made new.shape) ≡ spell (element_made new)
unfolding spell body_bytes
spell_joined new good =
    let behind : List ℕ = display_bytes (display_made new) ++ (parts_bytes (parts_made new.axes new.shape) ++ rest_made new.shape) in
    let size = size-made new good in
    let words : (size_made new.axes new.shape - 4) / 2 ≡ length behind / 2 = omega arith in
    append_assoc (first_byte (element_made new) ∷ second_byte (element_made new) ∷ word_bytes ((size_made new.axes new.shape - 4) / 2))
    (display_bytes (display_made new))
    (parts_bytes (parts_made new.axes new.shape) ++ rest_made new.shape)
    ∙ ap (λ (n : ℕ). first_byte (element_made new) ∷ second_byte (element_made new) ∷ (word_bytes n ++ behind)) words

-- each appended to those before
pub spell_pieces : (new : NewElement) → IsNew new → {axes : ℕ} {shape : NewShape} → axes ≡ new.axes → shape ≡ new.shape → {none head display all : List ℕ}
    → none ≡ [] → head ≡ none ++ (first_byte (element_made new) ∷ second_byte (element_made new) ∷ word_bytes ((size_made new.axes new.shape - 4) / 2))
    → display ≡ head ++ display_bytes (display_made new) → all ≡ display ++ (parts_bytes (parts_made axes shape) ++ rest_made shape) → all
    ≡ spell (element_made new)
spell_pieces new good same_axes same_shape one two three four =
    let front = rw one at two in cc (spell_joined new good)
