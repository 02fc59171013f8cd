-- A displacement of a body is a step added to each number of its pieces.
use Rattle.std.proofs.Common.{◌≡◌, ℕ, zero, suc, ◌+◌, ◌≤◌, List, [], ◌∷◌, ◌++◌, length, take, drop, map, refl, sym, ap, ◌∙◌, Bool, true, false, arith}
use Rattle.std.specs.Prelude.{ℤ, pos, ◌+ℤ◌}
use Rattle.std.specs.List.{AllByRecursion, flat_map}
use Rattle.std.proofs.lemmas.Int.{ints}
use Rattle.std.proofs.lemmas.List.{drop-drop, get_or-drop, length-map, length-take}
use Rattle.dgn_words.specs.Numbers.{range_long_bytes}
use Rattle.range_code.specs.Ranges.{on_axis}
use Rattle.dgn_drawing.specs.Element.{Parts, Line, Points, Text, Node, Cell, Header, Plain, Body, Silent, Shown}
use Rattle.dgn_drawing.specs.WellFormed.{IsPoint, HasParts, HasBody}
use Rattle.dgn_drawing.specs.Changes.{displaced, parts_displaced, body_displaced}
use Rattle.dgn_drawing.proofs.Pieces.{Piece, Kept, Number, moved, side_by_side, moved-append}
use Rattle.dgn_drawing.proofs.BodyPieces.{corner_pieces, point_pieces, points_pieces, parts_pieces, words_and_look, body_pieces}

-- numbers with what is given along each axis added, or 0
abbrev plus : List ℤ → List ℤ → List ℤ
plus ds [] = []
plus ds (x ∷ xs) = (x +ℤ on_axis ds 0) ∷ plus (drop 1 ds) xs

-- adding 0 changes nothing
plus-zero : (x : ℤ) → x +ℤ pos 0 ≡ x
plus-zero x = grind (arith, ints)

-- adding what isn't given changes nothing
plus-none : (xs : List ℤ) → plus [] xs ≡ xs
plus-none [] = refl
plus-none (x ∷ xs) = ap (λ y. y ∷ plus [] xs) (plus-zero x) ∙ ap (λ l. x ∷ l) (plus-none xs)

-- a displacement along as many axes as there are numbers
displaced-plus : (xs : List ℤ) (n : ℕ) (ds : List ℤ) → length xs ≤ n → displaced (take n ds) xs ≡ plus ds xs
displaced-plus [] n ds few = refl
displaced-plus (x ∷ xs) zero ds few = absurd (omega arith)
displaced-plus (x ∷ xs) (suc n) [] few = sym (plus-none (x ∷ xs))
displaced-plus (x ∷ xs) (suc n) (d ∷ ds) few = ap (λ l. (x +ℤ d) ∷ l) (displaced-plus xs n ds (omega arith))

-- steps added to numbers side by side, the first along the given axis
moved-side : (by : List ℤ) (offset : Bool) (xs : List ℤ) (axis : ℕ)
    → moved (on_axis by) (side_by_side offset axis xs) ≡ side_by_side offset axis (plus (drop axis by) xs)
moved-side by offset [] axis = refl
moved-side by offset (x ∷ xs) axis =
    let here : on_axis by axis ≡ on_axis (drop axis by) 0 = sym (get_or-drop axis by 0 (pos 0) ∙ ap (on_axis by) (omega arith)) in
    let next : drop (axis + 1) by ≡ drop 1 (drop axis by) = sym (drop-drop 1 axis by) in
    ap (λ (d : ℤ). Number offset axis (x +ℤ d) ∷ moved (on_axis by) (side_by_side offset (axis + 1) xs)) here
    ∙ ap (λ l. Number offset axis (x +ℤ on_axis (drop axis by) 0) ∷ l)
    (moved-side by offset xs (axis + 1) ∙ ap (λ (ds : List ℤ). side_by_side offset (axis + 1) (plus ds xs)) next)

-- steps added to no more numbers than axes are a displacement along the file's axes
moved-numbers : (dim : ℕ) (by : List ℤ) (offset : Bool) (xs : List ℤ) → length xs ≤ dim
    → moved (on_axis by) (side_by_side offset 0 xs) ≡ side_by_side offset 0 (displaced (take dim by) xs)
moved-numbers dim by offset xs few = moved-side by offset xs 0 ∙ ap (side_by_side offset 0) (sym (displaced-plus xs dim by few))

-- the front of displaced numbers is the front displaced
pub take-displaced : (n : ℕ) (ds xs : List ℤ) → take n (displaced ds xs) ≡ displaced ds (take n xs)
take-displaced zero ds xs = refl
take-displaced (suc n) ds [] = refl
take-displaced (suc n) [] (x ∷ xs) = refl
take-displaced (suc n) (d ∷ ds) (x ∷ xs) = ap (λ l. (x +ℤ d) ∷ l) (take-displaced n ds xs)

-- what is behind the axes of a displacement stays
pub drop-displaced : (n : ℕ) (ds xs : List ℤ) → drop n (displaced (take n ds) xs) ≡ drop n xs
drop-displaced zero ds [] = refl
drop-displaced zero ds (x ∷ xs) = refl
drop-displaced (suc n) ds [] = refl
drop-displaced (suc n) [] (x ∷ xs) = refl
drop-displaced (suc n) (d ∷ ds) (x ∷ xs) = drop-displaced n ds xs

-- there are as many numbers
pub length-displaced : (ds xs : List ℤ) → length (displaced ds xs) ≡ length xs
length-displaced ds [] = refl
length-displaced [] (x ∷ xs) = refl
length-displaced (d ∷ ds) (x ∷ xs) = omega (arith, length-displaced ds xs)

module _ (dim : ℕ) (by : List ℤ) where
  -- a corner
  moved-corner : (v : List ℤ) → moved (on_axis by) (corner_pieces dim v) ≡ corner_pieces dim (displaced (take dim by) v)
  moved-corner v =
      let behind : List Piece = Kept (flat_map range_long_bytes (drop dim v)) ∷ [] in
      rw (
        moved-append (on_axis by) (side_by_side true 0 (take dim v)) behind,
        moved-numbers dim by true (take dim v) (omega (arith, length-take dim v)),
        take-displaced dim (take dim by) v,
        drop-displaced dim by v,
      )

  -- a point
  moved-point : (v : List ℤ) → IsPoint dim v → moved (on_axis by) (point_pieces v) ≡ point_pieces (displaced (take dim by) v)
  moved-point v good = let long = good.long in moved-numbers dim by false v (omega arith)

  -- points side by side
  moved-points : (vs : List (List ℤ)) → AllByRecursion (IsPoint dim) vs
      → moved (on_axis by) (points_pieces vs) ≡ points_pieces (map (displaced (take dim by)) vs)
  moved-points [] good = refl
  moved-points (v ∷ vs) good = rw (moved-append (on_axis by) (point_pieces v) (points_pieces vs), moved-point v good.0, moved-points vs good.1)

  -- the parts of each type
  moved-parts : (parts : Parts) → HasParts dim parts → moved (on_axis by) (parts_pieces parts) ≡ parts_pieces (parts_displaced (take dim by) parts)
  moved-parts (Line points) good = moved-points points good.1
  moved-parts (Points points) good = rw (moved-points points good.1, length-map points (displaced (take dim by)))
  moved-parts (Text run origin spare chars) good =
      let behind : List Piece = Kept (length chars ∷ spare ∷ chars) ∷ [] in
      rw (moved-append (on_axis by) (point_pieces origin) behind, moved-point origin good.point)
  moved-parts (Node total run origin) good = rw (moved-point origin good.point)
  moved-parts (Cell total name run origin) good = rw (moved-point origin good.point)
  moved-parts (Header total number) good = refl
  moved-parts Plain good = refl

  -- a step added to each number of a body's pieces is the body displaced
  pub moved-body : (body : Body) → HasBody dim body → moved (on_axis by) (body_pieces dim body) ≡ body_pieces dim (body_displaced (take dim by) body)
  moved-body (Silent rest) good = refl
  moved-body (Shown d parts rest) good =
      let behind : List Piece = Kept (words_and_look d) ∷ (parts_pieces parts ++ Kept rest ∷ []) in
      rw (
        moved-append (on_axis by) (corner_pieces dim d.low) (corner_pieces dim d.high ++ behind),
        moved-corner d.low,
        moved-append (on_axis by) (corner_pieces dim d.high) behind,
        moved-corner d.high,
        moved-append (on_axis by) (parts_pieces parts) (Kept rest ∷ []),
        moved-parts parts good.1,
      )
