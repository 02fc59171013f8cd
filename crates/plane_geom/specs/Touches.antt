-- Whether segments touch, as a test that computes: their boxes meet, and neither lies strictly on one
-- side of the other's line.
use Rattle.std.specs.Prelude.{ℤ, pos, Bool, not, ◌&&◌, ◌||◌, int_lt, int_le}
use Rattle.std.specs.Int.{int_min, int_max}
use Rattle.plane_geom.specs.declared.pt.Pt.{Pt}
use Rattle.plane_geom.specs.Turns.{turn}

-- whether the interval with the ends p and q meets that with the ends r and s
abbrev pub intervals_meet : ℤ → ℤ → ℤ → ℤ → Bool
intervals_meet p q r s = int_le (int_max (int_min p q) (int_min r s)) (int_min (int_max p q) (int_max r s))

-- whether the box that p and q span meets that of r and s
unfoldable pub boxes_meet : Pt → Pt → Pt → Pt → Bool
boxes_meet p q r s = intervals_meet p.x q.x r.x s.x && intervals_meet p.y q.y r.y s.y

-- whether both numbers are above 0, or both below
unfoldable pub on_one_side : ℤ → ℤ → Bool
on_one_side m n = int_lt (pos 0) m && int_lt (pos 0) n || int_lt m (pos 0) && int_lt n (pos 0)

-- whether the segments from p to q and from r to s touch
unfoldable pub touches : Pt → Pt → Pt → Pt → Bool
touches p q r s = boxes_meet p q r s && not (on_one_side (turn p q r) (turn p q s)) && not (on_one_side (turn r s p) (turn r s q))
