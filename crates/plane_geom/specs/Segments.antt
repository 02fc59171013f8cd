-- Segments with a common point. The point that lies a parts of c along the segment from p to q is
-- p + (a/c) (q - p); it is written here times c, so that only whole numbers stand.
use Rattle.std.specs.Prelude.{◌≡◌, ℕ, ◌<◌, ◌≤◌, ℤ, pos, ◌+ℤ◌, ◌-ℤ◌, ◌*ℤ◌}
use Rattle.plane_geom.specs.declared.pt.Pt.{Pt}

-- on one axis c times the point that lies a parts of c from p to q
abbrev pub along : ℕ → ℕ → ℤ → ℤ → ℤ
along c a p q = pos c *ℤ p +ℤ pos a *ℤ (q -ℤ p)

-- the segments from p to q and from r to s have a common point, a parts of c along the one and b parts
-- of c along the other
pub record Touch (p q r s : Pt) : Type 0 where
  pub a : ℕ
  pub b : ℕ
  pub c : ℕ
  pub some : 0 < c
  pub on_first : a ≤ c
  pub on_second : b ≤ c
  pub same_x : along c a p.x q.x ≡ along c b r.x s.x
  pub same_y : along c a p.y q.y ≡ along c b r.y s.y
