-- A spelling in pieces: bytes that stay, and numbers of four bytes each. Where the pieces stand, the numbers
-- are read at their spots; and sums that are put there are the pieces with the sums in them.
use Rattle.std.proofs.Common.{◌≡◌, ℕ, ◌+◌, ◌≤◌, List, [], ◌∷◌, ◌++◌, length, take, drop, map, refl, sym, ap, ◌∙◌, append_assoc, Bool, true, false, arith}
use Rattle.std.proofs.Common.{length-append}
use Rattle.std.specs.Prelude.{ℤ, ◌+ℤ◌, if◌then◌else◌}
use Rattle.std.specs.List.{AllByRecursion}
use Rattle.std.proofs.lemmas.List.{take_at, drop_at}
use Rattle.dgn_words.specs.Numbers.{long_bytes, range_long_bytes}
use Rattle.dgn_layout.specs.declared.spot.Spot.{Spot}
use Rattle.dgn_layout.specs.Spots.{Rise}
use Rattle.patch_bytes.specs.Puts.{Put, lay, write}
use Rattle.dgn_drawing.specs.WellFormed.{IsCoordinate}
use Rattle.dgn_drawing.specs.SpotNumbers.{value_at}
use Rattle.dgn_drawing.proofs.BytesAt.{Has, has_first}
use Rattle.dgn_drawing.proofs.Fields.{long_is, range_long_is}

-- bytes that stay, or a number: whether it is a range number, its axis, and itself
pub data Piece : Type 0 where
  Kept : List ℕ → Piece
  Number : Bool → ℕ → ℤ → Piece

-- a spot
abbrev pub spot : Bool → ℕ → ℕ → Spot
spot offset axis p = record { at = p; axis = axis; offset = offset }

-- the four bytes of a number
unfoldable pub bytes_of : Bool → ℤ → List ℕ
bytes_of offset v = if offset then range_long_bytes v else long_bytes v

-- the bytes of pieces
abbrev pub bytes_in : List Piece → List ℕ
bytes_in [] = []
bytes_in (Kept x ∷ ps) = x ++ bytes_in ps
bytes_in (Number offset axis v ∷ ps) = bytes_of offset v ++ bytes_in ps

-- what is made of each number and its spot, where the pieces begin at place p
abbrev pub read_in : {X : Type 0} → (Spot → ℤ → X) → ℕ → List Piece → List X
read_in f p [] = []
read_in f p (Kept x ∷ ps) = read_in f (p + length x) ps
read_in f p (Number offset axis v ∷ ps) = f (spot offset axis p) v ∷ read_in f (p + 4) ps

-- the spots
abbrev pub spots_in : ℕ → List Piece → List Spot
spots_in p ps = read_in (λ s v. s) p ps

-- the numbers
abbrev pub values_in : List Piece → List ℤ
values_in [] = []
values_in (Kept x ∷ ps) = values_in ps
values_in (Number offset axis v ∷ ps) = v ∷ values_in ps

-- the pieces with a step along its axis added to each number
abbrev pub moved : (ℕ → ℤ) → List Piece → List Piece
moved step [] = []
moved step (Kept x ∷ ps) = Kept x ∷ moved step ps
moved step (Number offset axis v ∷ ps) = Number offset axis (v +ℤ step axis) ∷ moved step ps

-- what is put at a number's spot where the step is added
abbrev pub put_by : (ℕ → ℤ) → Spot → ℤ → Put
put_by step s v = record { at = s.at; bytes = bytes_of s.offset (v +ℤ step s.axis) }

-- a number has four bytes
pub length-bytes_of : (offset : Bool) (v : ℤ) → length (bytes_of offset v) ≡ 4
unfolding bytes_of
length-bytes_of true v = refl
length-bytes_of false v = refl

-- a number is read at its spot
value_is : {b : List ℕ} {q : ℕ} (offset : Bool) (axis p : ℕ) (v : ℤ) → Has b p (bytes_of offset v) q → IsCoordinate v → value_at b (spot offset axis p) ≡ v
unfolding bytes_of
value_is true axis p v h on = range_long_is h on
value_is false axis p v h on = long_is h on

-- each number is read at its spot
pub read_are : {X : Type 0} (f : Spot → ℤ → X) {b : List ℕ} {q : ℕ} (ps : List Piece) (p : ℕ) → Has b p (bytes_in ps) q
    → AllByRecursion IsCoordinate (values_in ps) → map (λ s. f s (value_at b s)) (spots_in p ps) ≡ read_in f p ps
read_are f [] p h on = refl
read_are f {b} {q} (Kept x ∷ ps) p h on = read_are f ps (p + length x) (has_first {b = b} {x = x} (p + length x) refl h).1 on
read_are f {b} {q} (Number offset axis v ∷ ps) p h on =
    let two = has_first {b = b} {x = bytes_of offset v} (p + 4) (omega (arith, length-bytes_of offset v)) h in
    let here : value_at b (spot offset axis p) ≡ v = value_is offset axis p v two.0 on.0 in
    let more = read_are f ps (p + 4) two.1 on.1 in
    ap (λ w. f (spot offset axis p) w ∷ map (λ s. f s (value_at b s)) (spots_in (p + 4) ps)) here ∙ ap (λ l. f (spot offset axis p) v ∷ l) more

-- the numbers alone
pub values_read : (p : ℕ) (ps : List Piece) → read_in (λ s v. v) p ps ≡ values_in ps
values_read p [] = refl
values_read p (Kept x ∷ ps) = values_read (p + length x) ps
values_read p (Number offset axis v ∷ ps) = ap (λ l. v ∷ l) (values_read (p + 4) ps)

-- the sums alone
pub sums_read : (step : ℕ → ℤ) (p : ℕ) (ps : List Piece) → read_in (λ s v. v +ℤ step s.axis) p ps ≡ values_in (moved step ps)
sums_read step p [] = refl
sums_read step p (Kept x ∷ ps) = sums_read step (p + length x) ps
sums_read step p (Number offset axis v ∷ ps) = ap (λ l. (v +ℤ step axis) ∷ l) (sums_read step (p + 4) ps)

-- bytes laid over as many
pub lay-over : (front x behind y : List ℕ) (p : ℕ) → length front ≡ p → length x ≡ length y
    → lay (front ++ (x ++ behind)) (record { at = p; bytes = y }) ≡ front ++ (y ++ behind)
unfolding lay
lay-over front x behind y p at same =
    let before : take p (front ++ (x ++ behind)) ≡ front = take_at front (x ++ behind) p at in
    let whole : front ++ (x ++ behind) ≡ (front ++ x) ++ behind = sym (append_assoc front x behind) in
    let long : length (front ++ x) ≡ p + length y = omega (arith, length-append front x) in
    let after : drop (p + length y) (front ++ (x ++ behind)) ≡ behind = ap (drop (p + length y)) whole ∙ drop_at (front ++ x) behind (p + length y) long in
    rw (before, after, append_assoc) refl

-- sums put at the spots are the pieces with the sums in them
pub write_pieces : (step : ℕ → ℤ) (ps : List Piece) (front : List ℕ) (p : ℕ) → length front ≡ p
    → write (front ++ bytes_in ps) (read_in (put_by step) p ps) ≡ front ++ bytes_in (moved step ps)
write_pieces step [] front p at = refl
write_pieces step (Kept x ∷ ps) front p at =
    ap (λ b. write b (read_in (put_by step) (p + length x) ps)) (sym (append_assoc front x (bytes_in ps)))
    ∙ write_pieces step ps (front ++ x) (p + length x) (omega (arith, length-append front x))
    ∙ append_assoc front x (bytes_in (moved step ps))
write_pieces step (Number offset axis v ∷ ps) front p at =
    let y : List ℕ = bytes_of offset (v +ℤ step axis) in
    let long : length y ≡ 4 = length-bytes_of offset (v +ℤ step axis) in
    let over = lay-over front (bytes_of offset v) (bytes_in ps) y p at (length-bytes_of offset v ∙ sym long) in
    ap (λ b. write b (read_in (put_by step) (p + 4) ps)) (over ∙ sym (append_assoc front y (bytes_in ps)))
    ∙ write_pieces step ps (front ++ y) (p + 4) (omega (arith, length-append front y))
    ∙ append_assoc front y (bytes_in (moved step ps))

-- and are as many bytes
pub length-moved : (step : ℕ → ℤ) (ps : List Piece) → length (bytes_in (moved step ps)) ≡ length (bytes_in ps)
length-moved step [] = refl
length-moved step (Kept x ∷ ps) = omega (arith, length-moved step ps, length-append x (bytes_in ps), length-append x (bytes_in (moved step ps)))
length-moved step (Number offset axis v ∷ ps) =
    omega (
      arith,
      length-moved step ps,
      length-bytes_of offset v,
      length-bytes_of offset (v +ℤ step axis),
      length-append (bytes_of offset v) (bytes_in ps),
      length-append (bytes_of offset (v +ℤ step axis)) (bytes_in (moved step ps)),
    )

-- spots that rise from a place rise from each before it
rise_before : (p r q : ℕ) (ss : List Spot) → p ≤ r → Rise r ss q → Rise p ss q
rise_before p r q [] before rise = omega (arith, rise)
rise_before p r q (s ∷ ss) before rise = (let first = rise.0 in omega arith, rise.1)

-- the spots rise, and lie in the bytes
pub rise_in : (ps : List Piece) (p q : ℕ) → q ≡ p + length (bytes_in ps) → Rise p (spots_in p ps) q
rise_in [] p q at = omega arith
rise_in (Kept x ∷ ps) p q at =
    rise_before p (p + length x) q (spots_in (p + length x) ps) (omega arith) (rise_in ps (p + length x) q (omega (arith, length-append x (bytes_in ps))))
rise_in (Number offset axis v ∷ ps) p q at =
    (omega arith, rise_in ps (p + 4) q (omega (arith, length-bytes_of offset v, length-append (bytes_of offset v) (bytes_in ps))))

-- the bytes of pieces one behind the other
pub bytes_in-append : (ps qs : List Piece) → bytes_in (ps ++ qs) ≡ bytes_in ps ++ bytes_in qs
bytes_in-append [] qs = refl
bytes_in-append (Kept x ∷ ps) qs = ap (λ l. x ++ l) (bytes_in-append ps qs) ∙ sym (append_assoc x (bytes_in ps) (bytes_in qs))
bytes_in-append (Number offset axis v ∷ ps) qs =
    ap (λ l. bytes_of offset v ++ l) (bytes_in-append ps qs) ∙ sym (append_assoc (bytes_of offset v) (bytes_in ps) (bytes_in qs))

-- the spots of what is behind begin where the pieces before it end
pub spots_in-append : (p r : ℕ) (ps qs : List Piece) → r ≡ p + length (bytes_in ps) → spots_in p (ps ++ qs) ≡ spots_in p ps ++ spots_in r qs
spots_in-append p r [] qs at = ap (λ (k : ℕ). spots_in k qs) (omega arith)
spots_in-append p r (Kept x ∷ ps) qs at = spots_in-append (p + length x) r ps qs (omega (arith, length-append x (bytes_in ps)))
spots_in-append p r (Number offset axis v ∷ ps) qs at =
    ap (λ l. spot offset axis p ∷ l)
    (spots_in-append (p + 4) r ps qs (omega (arith, length-bytes_of offset v, length-append (bytes_of offset v) (bytes_in ps))))

-- the numbers of pieces one behind the other
pub values_in-append : (ps qs : List Piece) → values_in (ps ++ qs) ≡ values_in ps ++ values_in qs
values_in-append [] qs = refl
values_in-append (Kept x ∷ ps) qs = values_in-append ps qs
values_in-append (Number offset axis v ∷ ps) qs = ap (λ l. v ∷ l) (values_in-append ps qs)

-- steps added in pieces one behind the other
pub moved-append : (step : ℕ → ℤ) (ps qs : List Piece) → moved step (ps ++ qs) ≡ moved step ps ++ moved step qs
moved-append step [] qs = refl
moved-append step (Kept x ∷ ps) qs = ap (λ l. Kept x ∷ l) (moved-append step ps qs)
moved-append step (Number offset axis v ∷ ps) qs = ap (λ l. Number offset axis (v +ℤ step axis) ∷ l) (moved-append step ps qs)

-- numbers side by side, the first along the given axis
abbrev pub side_by_side : Bool → ℕ → List ℤ → List Piece
side_by_side offset axis [] = []
side_by_side offset axis (x ∷ xs) = Number offset axis x ∷ side_by_side offset (axis + 1) xs
