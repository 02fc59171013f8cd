-- The spots of a record's spelling hold its numbers, rise, and lie in the element.
use Rattle.std.proofs.Common.{◌≡◌, ℕ, zero, suc, ◌+◌, List, [], ◌∷◌, ◌++◌, length, take, drop, map, sym, ap, ◌∙◌, subst, true}
use Rattle.std.specs.Prelude.{ℤ, ◌+ℤ◌}
use Rattle.std.specs.List.{AllByRecursion, flat_map}
use Rattle.dgn_layout.specs.declared.spot.Spot.{Spot}
use Rattle.dgn_layout.specs.Classes.{class_of}
use Rattle.dgn_layout.specs.Spots.{has_spots, spots_of, HoldsPoints, Rise}
use Rattle.range_code.specs.Ranges.{on_axis}
use Rattle.dgn_drawing.specs.Element.{Parts, Line, Points, Text, Node, Cell, Header, Plain, Body, Silent, Shown, Element}
use Rattle.dgn_drawing.specs.Spelling.{spell, size_of}
use Rattle.dgn_drawing.specs.WellFormed.{IsDimension, IsCoordinate, IsPoint, HasParts, HasBody, IsWellFormed}
use Rattle.dgn_drawing.specs.SpotNumbers.{value_at}
use Rattle.dgn_drawing.specs.Changes.{points_in, numbers_in, body_displaced}
use Rattle.dgn_drawing.specs.Laws.{SpotsSit, SpotsSitAtTheNumbers}
use Rattle.dgn_drawing.proofs.BytesAt.{Has, has_same}
use Rattle.dgn_drawing.proofs.RecordsRead.{has_body, size-spell}
use Rattle.dgn_drawing.proofs.Pieces.{Piece, bytes_in, read_in, spots_in, values_in, read_are, values_read, sums_read, rise_in}
use Rattle.dgn_drawing.proofs.BodyPieces.{body_pieces, bytes_body, values_body, spots_body, holds_body}
use Rattle.dgn_drawing.proofs.MovedPieces.{moved-body}

-- what holds of all numbers of two lists holds of all in one behind the other
pub each_of_both : (xs ys : List ℤ) → AllByRecursion IsCoordinate xs → AllByRecursion IsCoordinate ys → AllByRecursion IsCoordinate (xs ++ ys)
each_of_both [] ys one two = two
each_of_both (x ∷ xs) ys one two = (one.0, each_of_both xs ys one.1 two)

-- what holds of all numbers of two lists in one holds of all in each
pub of_each : (xs ys : List ℤ) → AllByRecursion IsCoordinate (xs ++ ys) → AllByRecursion IsCoordinate xs × AllByRecursion IsCoordinate ys
of_each [] ys all = (tt, all)
of_each (x ∷ xs) ys all = let two = of_each xs ys all.1 in ((all.0, two.0), two.1)

-- what holds of all numbers holds of those in front
pub each_in_front : (n : ℕ) (xs : List ℤ) → AllByRecursion IsCoordinate xs → AllByRecursion IsCoordinate (take n xs)
each_in_front zero xs all = tt
each_in_front (suc n) [] all = tt
each_in_front (suc n) (x ∷ xs) all = (all.0, each_in_front n xs all.1)

-- and of those behind it
pub each_behind : (n : ℕ) (xs : List ℤ) → AllByRecursion IsCoordinate xs → AllByRecursion IsCoordinate (drop n xs)
each_behind zero xs all = all
each_behind (suc n) [] all = tt
each_behind (suc n) (x ∷ xs) all = each_behind n xs all.1

-- the numbers of points lie on the plane
each_of_points : (dim : ℕ) (vs : List (List ℤ)) → AllByRecursion (IsPoint dim) vs → AllByRecursion IsCoordinate (flat_map (λ p. p) vs)
each_of_points dim [] good = tt
each_of_points dim (v ∷ vs) good = each_of_both v (flat_map (λ p. p) vs) good.0.on_plane (each_of_points dim vs good.1)

-- and so do those of the parts
each_of_parts : (dim : ℕ) (parts : Parts) → HasParts dim parts → AllByRecursion IsCoordinate (flat_map (λ p. p) (points_in parts))
each_of_parts dim (Line points) good = each_of_points dim points good.1
each_of_parts dim (Points points) good = each_of_points dim points good.1
each_of_parts dim (Text run origin spare chars) good = each_of_both origin [] good.point.on_plane tt
each_of_parts dim (Node total run origin) good = each_of_both origin [] good.point.on_plane tt
each_of_parts dim (Cell total name run origin) good = each_of_both origin [] good.point.on_plane tt
each_of_parts dim (Header total number) good = tt
each_of_parts dim Plain good = tt

-- the numbers of a body that holds its values lie on the plane
each_of_body : (dim : ℕ) (body : Body) → HasBody dim body → AllByRecursion IsCoordinate (numbers_in dim body)
each_of_body dim (Silent rest) good = tt
each_of_body dim (Shown d parts rest) good =
    each_of_both (take dim d.low) _ (each_in_front dim d.low good.0.low.on_plane)
    (each_of_both (take dim d.high) _ (each_in_front dim d.high good.0.high.on_plane) (each_of_parts dim parts good.1))

-- the record's body in pieces, behind the first four bytes
pub record IsInPieces (dim : ℕ) (e : Element) : Type 0 where
  pub bytes : Has (spell e) 4 (bytes_in (body_pieces dim e.body)) (size_of e)
  pub size : size_of e ≡ 4 + length (bytes_in (body_pieces dim e.body))
  pub spots : spots_of dim e.kind (spell e) ≡ spots_in 4 (body_pieces dim e.body)
  pub on_plane : AllByRecursion IsCoordinate (values_in (body_pieces dim e.body))

module _ (dim : ℕ) (e : Element) (axes : IsDimension dim) (good : IsWellFormed dim e) (some : has_spots (class_of e.kind) ≡ true) where
  -- a well formed record of a class that has spots is in pieces
  pub in_pieces : IsInPieces dim e
  in_pieces = record {
    bytes = has_same (sym (bytes_body dim e.body)) (has_body dim e axes good);
    size = size-spell dim e axes good ∙ ap (λ (b : List ℕ). 4 + length b) (sym (bytes_body dim e.body));
    spots = spots_body dim e.kind (spell e) axes some e.body good.parts good.form (has_body dim e axes good);
    on_plane = subst (AllByRecursion IsCoordinate) (sym (values_body dim e.body)) (each_of_body dim e.body good.parts);
  }

  -- the element holds its points
  pub holds_points : HoldsPoints dim e.kind (spell e) (size_of e)
  holds_points = holds_body dim e.kind (spell e) axes some e.body good.parts good.form (has_body dim e axes good) (size-spell dim e axes good)

  -- what is made of the numbers at the spots is made of the pieces
  pub made_of_pieces : {X : Type 0} (f : Spot → ℤ → X)
      → map (λ s. f s (value_at (spell e) s)) (spots_of dim e.kind (spell e)) ≡ read_in f 4 (body_pieces dim e.body)
  made_of_pieces f =
      ap (map (λ s. f s (value_at (spell e) s))) in_pieces.spots ∙ read_are f (body_pieces dim e.body) 4 in_pieces.bytes in_pieces.on_plane

  -- the spots hold the numbers and the sums, rise, and lie in the element
  pub sits : SpotsSit dim e
  sits =
      let ps : List Piece = body_pieces dim e.body in
      record {
        numbers = made_of_pieces (λ s v. v) ∙ values_read 4 ps ∙ values_body dim e.body;
        sums = λ by.
            made_of_pieces (λ s v. v +ℤ on_axis by.by s.axis) ∙ sums_read (on_axis by.by) 4 ps
            ∙ ap values_in (moved-body dim by.by e.body good.parts) ∙ values_body dim (body_displaced (take dim by.by) e.body);
        holds = holds_points;
        rise = subst (λ (ss : List Spot). Rise 4 ss (size_of e)) (sym in_pieces.spots) (rise_in ps 4 (size_of e) in_pieces.size);
      }

-- the law on spots
pub spots_sit : SpotsSitAtTheNumbers
spots_sit dim e axes good some = sits dim e axes good some
