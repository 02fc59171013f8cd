-- Equality of points, and that it is one.
use Rattle.std.specs.Prelude.{Bool}
use Rattle.std.specs.Ordering.{int_eq, on, eq_of_both}
use Rattle.std.specs.Cmp.{IsEquivalence, on_equiv, and_equiv, int_eq_equiv}
use Rattle.plane_geom.specs.declared.pt.Pt.{Pt}

-- whether two points have the same coordinates
abbrev pub same_point : Pt → Pt → Bool
same_point = eq_of_both (on (λ p. p.x) int_eq) (on (λ p. p.y) int_eq)

pub same_point_equiv : IsEquivalence same_point
same_point_equiv =
    and_equiv (on_equiv (λ (p : Pt). p.x) int_eq_equiv) (on_equiv (λ (p : Pt). p.y) int_eq_equiv)
