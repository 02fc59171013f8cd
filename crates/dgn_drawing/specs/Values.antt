-- What a contract sees of the values that an edit carries: a displacement and a change of the look, each as
-- its plain fields; and what is known of them.
use Rattle.std.specs.Prelude.{ℕ, ◌≡◌, ◌<◌, ℤ, pos, List, Option, IfSome}
use Rattle.std.specs.List.{AllByRecursion}
use Rattle.range_code.specs.Plane.{IsDisplacement}
use Rattle.range_code.specs.Ranges.{on_axis}
use Rattle.dgn_drawing.specs.WellFormed.{IsDimension}

-- a displacement: the number of axes that it is given for, and how far it goes along x, y and z
pub record Displacement : Type 0 where
  pub axes : ℕ
  pub by : List ℤ

-- a change of the look: what is given of colour, weight and style
pub record LookChange : Type 0 where
  pub color : Option ℕ
  pub weight : Option ℕ
  pub style : Option ℕ

-- it is given for 2 or 3 axes, goes along each as far as one coordinate of the design plane is from another
-- at most, and not along z where it is given for 2
pub record IsShift (by : Displacement) : Type 0 where
  pub axes : IsDimension by.axes
  pub each : AllByRecursion IsDisplacement by.by
  pub flat : by.axes ≡ 2 → on_axis by.by 2 ≡ pos 0

-- what is given of the look fits its field
pub record IsLook (change : LookChange) : Type 0 where
  pub color : IfSome change.color (λ c. c < 256)
  pub weight : IfSome change.weight (λ w. w < 32)
  pub style : IfSome change.style (λ s. s < 8)
