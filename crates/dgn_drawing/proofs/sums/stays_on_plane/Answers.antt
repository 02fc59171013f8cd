use Rattle.std.proofs.Common.{◌≡◌, length, sym, ap, ◌∙◌, subst, List}
use Rattle.std.specs.List.{list_all}
use Rattle.range_code.specs.Plane.{is_on_plane}
use Rattle.dgn_layout.specs.declared.spot.Spot.{Spot}
use Rattle.dgn_layout.specs.declared.types.spots.Spots.{Spots}
use Rattle.dgn_layout.specs.Spots.{spots_of}
use Rattle.dgn_layout.specs.SpotsLeft.{spots_left}
use Rattle.dgn_drawing.specs.SpotNumbers.{sum_at}
use Rattle.dgn_drawing.proofs.SpotSteps.{LieIn, lie_in}
use Rattle.dgn_drawing.proofs.sums.stays_on_plane.Goals as goal

pub spots-init : goal.spots-init
spots-init c =
    let begun : spots_left c.into_iter-spot-iterator.result ≡ spots_of c.args.dim c.args.kind c.args.b.now =
    ap (λ (s : Spots). spots_left s) c.into_iter-spot-iterator.ensures.into_iter_gives ∙ c.spots_in-spot-items.ensures in
    record {
      same = ap (λ (ss : List Spot). list_all (λ s. is_on_plane (sum_at c.args.by.now c.args.b.now s)) ss) begun;
      lie = subst (LieIn (length c.args.b.now)) (sym begun) (lie_in c.args.dim c.args.kind c.args.b.now c.requires.dimension c.requires.holds);
    }
