-- The points of a script: `x,y` or `x,y,z`, each number of the design plane, and paths of several points.
use Rattle.std.specs.Prelude.{ℕ, ◌==◌, nat_le, Bool, ◌&&◌, if◌then◌else◌, ℤ, pos, List, [], ◌∷◌, length, Option, Some, None}
use Rattle.std.specs.List.{slice_split}
use Rattle.range_code.specs.Plane.{is_on_plane}
use Rattle.dgn_drawing.specs.WellFormed.{IsDimension}
use Rattle.dgn_drawing.specs.NewElements.{IsPointFor, ArePoints}
use Rattle.edit_script.specs.declared.points.PointGiven.{PointGiven}
use Rattle.edit_script.specs.declared.points.Path.{Path}
use Rattle.edit_script.specs.Numbers.{signed_within}
use Rattle.edit_script.specs.Words.{each_named}

-- a number, where it is a coordinate of the design plane
abbrev pub on_plane : Option ℤ → Option ℤ
on_plane None = None
on_plane (Some v) = if is_on_plane v then Some v else None

-- a number of a point, from -2147483648 to 2147483647
abbrev pub coordinate_named : List ℕ → Option ℤ
coordinate_named word = on_plane (signed_within 2147483648 word)

-- the point that is given for so many axes and has these numbers
abbrev pub point_of : ℕ → Option ℤ → Option ℤ → Option ℤ → Option PointGiven
point_of axes None y z = None
point_of axes (Some x) None z = None
point_of axes (Some x) (Some y) None = None
point_of axes (Some x) (Some y) (Some z) = Some (record { axes = axes; at = x ∷ y ∷ z ∷ [] })

-- whether a byte is a comma
abbrev pub is_comma : ℕ → Bool
is_comma b = b == 44

-- what stands between the commas of a word
abbrev pub numbers_of : List ℕ → List (List ℕ)
numbers_of word = slice_split is_comma word

-- the point of two numbers, of which z is 0, or of three
abbrev pub point_with : List (List ℕ) → Option PointGiven
point_with (x ∷ y ∷ []) = point_of 2 (coordinate_named x) (coordinate_named y) (Some (pos 0))
point_with (x ∷ y ∷ z ∷ []) = point_of 3 (coordinate_named x) (coordinate_named y) (coordinate_named z)
point_with _ = None

-- the point that a word spells
abbrev pub point_named : List ℕ → Option PointGiven
point_named word = point_with (numbers_of word)

-- the numbers of a point, where it is given for so many axes
abbrev pub for_axes : ℕ → Option PointGiven → Option (List ℤ)
for_axes axes None = None
for_axes axes (Some p) = if p.axes == axes then Some p.at else None

-- the points of these words, where each is given for so many axes
abbrev pub points_named : ℕ → List (List ℕ) → Option (List (List ℤ))
points_named axes words = each_named (λ word. for_axes axes (point_named word)) words

-- a path of points, where there are at least and at most so many
abbrev pub path_of : ℕ → ℕ → ℕ → Option (List (List ℤ)) → Option Path
path_of least most axes None = None
path_of least most axes (Some points) =
    if nat_le least (length points) && nat_le (length points) most then Some (record { axes = axes; points = points }) else None

-- the path of these words, each of which is a point for as many axes as the first
abbrev pub path_from : ℕ → ℕ → Option PointGiven → List (List ℕ) → Option Path
path_from least most None words = None
path_from least most (Some first) words = path_of least most first.axes (points_named first.axes words)

-- `P ..`, at least and at most so many
abbrev pub path_named : ℕ → ℕ → List (List ℕ) → Option Path
path_named least most [] = None
path_named least most (word ∷ words) = path_from least most (point_named word) (word ∷ words)

-- a point can be one of an element that is appended
pub record IsGiven (p : PointGiven) : Type 0 where
  pub axes : IsDimension p.axes
  pub point : IsPointFor p.axes p.at

-- and so can a path's points
pub record IsPath (least most : ℕ) (path : Path) : Type 0 where
  pub axes : IsDimension path.axes
  pub points : ArePoints path.axes least most path.points
