-- Where the segments of a path begin.
use Rattle.std.proofs.Common.{◌≡◌, ℤ, Bool, true, false, option_map, map, List, [], ◌∷◌, refl}
use Rattle.std.specs.List.{slice_get}
use Rattle.dgn_fence.specs.Segments.{plane_point, path_segments}
use Rattle.dgn_fence.specs.Taken.{first_point_of}

pub path_begins : (closed : Bool) (points : List (List ℤ)) → option_map plane_point (slice_get points 0)
    ≡ first_point_of (path_segments closed (map plane_point points))
path_begins closed [] = refl
path_begins true (a ∷ []) = refl
path_begins false (a ∷ []) = refl
path_begins closed (a ∷ b ∷ rest) = refl
