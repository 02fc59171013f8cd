-- What the tests of two segments compare. Contracts of private functions alone cite this.
use Rattle.std.specs.Prelude.{ℤ, pos, ◌<ℤ◌, ◌≤ℤ◌}
use Rattle.std.specs.Int.{int_min, int_max}
use Rattle.plane_geom.specs.declared.pt.Pt.{Pt}

-- not both above 0, and not both below
pub record Split (m n : ℤ) : Type 0 where
  pub not_above : pos 0 <ℤ m → pos 0 <ℤ n → ⊥
  pub not_below : m <ℤ pos 0 → n <ℤ pos 0 → ⊥

-- the interval with the ends p and q meets that with the ends r and s
abbrev pub Overlap : ℤ → ℤ → ℤ → ℤ → Type 0
Overlap p q r s = int_max (int_min p q) (int_min r s) ≤ℤ int_min (int_max p q) (int_max r s)

-- the boxes of the segments from p to q and from r to s meet
pub record BoxesMeet (p q r s : Pt) : Type 0 where
  pub on_x : Overlap p.x q.x r.x s.x
  pub on_y : Overlap p.y q.y r.y s.y
