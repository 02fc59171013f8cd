-- What a fit puts into an element turns its bytes into those of the fitted one.
use Rattle.std.proofs.Common.{◌≡◌, ℕ, ℤ, ◌+◌, ◌≤◌, List, [], ◌∷◌, map, take, refl, ap, ◌∙◌, subst, arith}
use Rattle.std.specs.List.{AllByRecursion}
use Rattle.range_code.specs.declared.Box3.{Box3}
use Rattle.dgn_layout.specs.declared.spot.Spot.{Spot}
use Rattle.dgn_layout.specs.Spots.{range_spots}
use Rattle.patch_bytes.specs.Puts.{Put, Span}
use Rattle.dgn_drawing.specs.Element.{Element}
use Rattle.dgn_drawing.specs.SpotNumbers.{number_bytes, number_in, range_put, range_puts}
use Rattle.dgn_drawing.specs.Spelling.{spell, size_of}
use Rattle.dgn_drawing.specs.WellFormed.{IsDimension, IsCoordinate, IsPoint, IsWellFormed}
use Rattle.dgn_drawing.specs.Items.{in_space}
use Rattle.dgn_drawing.specs.Changes.{with_range}
use Rattle.dgn_drawing.specs.Rows.{row_of}
use Rattle.dgn_drawing.proofs.Places.{in_both}
use Rattle.dgn_drawing.proofs.RangesPut.{IsBox, range_put_in, each_or}
use Rattle.dgn_drawing.proofs.SpotValues.{each_in_front}
use Rattle.edit_ops.proofs.ReadableElements.{IsShown, shown_long}
use Rattle.edit_ops.proofs.TextTurns.{Turns, moved, turns_inside}

-- an element with another range: what is put at its range spots turns it
pub record IsRanged (dim : ℕ) (r : Box3) (e : Element) : Type 0 where
  pub turned : (p : ℕ) → Turns p (spell e) (range_puts dim r p) (spell (with_range dim r e))
  pub good : IsWellFormed dim (with_range dim r e)
  pub row : row_of (with_range dim r e) ≡ row_of e

ranges_span : (dim : ℕ) (r : Box3) (m : ℕ) → IsDimension dim → 36 ≤ m → Span 0 (map (range_put r 0) (range_spots dim)) m
ranges_span dim r m axes long =
    in_both (λ (d : ℕ). Span 0 (map (range_put r 0) (range_spots d)) m)
    (omega arith, (omega arith, (omega arith, (omega arith, omega (arith, long)))))
    (omega arith, (omega arith, (omega arith, (omega arith, (omega arith, (omega arith, omega (arith, long))))))) axes

moved_ranges : (r : Box3) (p : ℕ) (ss : List Spot) → map (moved p) (map (range_put r 0) ss) ≡ map (range_put r p) ss
moved_ranges r p [] = refl
moved_ranges r p (s ∷ ss) =
    let at : p + (0 + s.at) ≡ p + s.at = omega arith in
    ap (λ (k : ℕ). record { at = k; bytes = number_bytes s (number_in r s) } ∷ map (moved p) (map (range_put r 0) ss)) at
    ∙ ap (λ (qs : List Put). range_put r p s ∷ qs) (moved_ranges r p ss)

pub ranged : (dim : ℕ) (r : Box3) (e : Element) → IsDimension dim → IsBox r → IsWellFormed dim e → IsShown e → IsRanged dim r e
ranged dim r e axes box good shown =
    let is = range_put_in dim r e shown.display shown.parts shown.rest axes box good shown.body in
    let span = ranges_span dim r (size_of e) axes (shown_long dim e good shown) in
    record {
      turned = λ p. subst (λ (ps : List Put). Turns p (spell e) ps (spell (with_range dim r e))) (moved_ranges r p (range_spots dim))
          (turns_inside p (spell e) (spell (with_range dim r e)) (range_puts dim r 0) span is.spelled);
      good = is.good;
      row = is.row;
    }

-- the corner of a point, or of a stored range, on the file's axes is a point of three numbers
pub flat_good : (dim : ℕ) (p : List ℤ) → AllByRecursion IsCoordinate p → IsPoint 3 (in_space (take dim p))
flat_good dim p each =
    let some = each_in_front dim p each in
    record { long = refl; on_plane = (each_or (take dim p) 0 some, (each_or (take dim p) 1 some, (each_or (take dim p) 2 some, tt))) }
