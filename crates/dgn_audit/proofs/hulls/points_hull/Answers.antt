use Rattle.std.proofs.Common.{◌≡◌, length, None, [], sym, ap, ◌∙◌, subst, List}
use Rattle.dgn_layout.specs.declared.spot.Spot.{Spot}
use Rattle.dgn_layout.specs.declared.types.spots.Spots.{Spots}
use Rattle.dgn_layout.specs.Spots.{spots_of}
use Rattle.dgn_layout.specs.SpotsLeft.{spots_left}
use Rattle.dgn_drawing.proofs.SpotSteps.{LieIn}
use Rattle.dgn_audit.proofs.PointHulls.{blank, read_from, row_read}
use Rattle.dgn_audit.proofs.hulls.points_hull.Goals as goal

pub spots-init : goal.spots-init
spots-init c =
    let begun : spots_left c.into_iter-spot-iterator.result ≡ spots_of c.args.d.now.dim c.args.view.kind c.args.view.bytes.now =
    ap (λ (s : Spots). spots_left s) c.into_iter-spot-iterator.ensures.into_iter_gives ∙ c.coordinates-spot-items.ensures.spots in
    record {
      all = ap (λ (ss : List Spot). read_from c.dim-dim.result c.args.view.bytes.now blank None ss) begun;
      lie = subst (LieIn (length c.args.view.bytes.now)) (sym begun) c.coordinates-spot-items.ensures.within;
    }

pub returns : goal.returns
returns c =
    let none : spots_left c.spots.spot-iterator ≡ [] = c.in-None.ensures.steps.0 in
    ap (λ (ss : List Spot). read_from c.dim-dim.result c.args.view.bytes.now c.spots.point.at c.spots.hull ss) (sym none)
    ∙ c.spots.invariant.all
    ∙ rw c.dim-dim.ensures.value (row_read c.args.d.now.dim (rw c.dim-dim.ensures.value at c.dim-dim.ensures.dimension)
    c.args.view.bytes.now c.args.view.kind c.requires.row)
