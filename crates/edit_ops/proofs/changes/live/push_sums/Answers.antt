use Rattle.std.proofs.Common.{◌≡◌, ◌++◌, length, map, sym, ap, ◌∙◌, subst, List}
use Rattle.std.specs.List.{list_all}
use Rattle.range_code.specs.Plane.{is_on_plane}
use Rattle.dgn_layout.specs.declared.spot.Spot.{Spot}
use Rattle.dgn_layout.specs.declared.types.spots.Spots.{Spots}
use Rattle.dgn_layout.specs.Spots.{spots_of}
use Rattle.dgn_layout.specs.SpotsLeft.{spots_left}
use Rattle.dgn_drawing.specs.SpotNumbers.{sum_at}
use Rattle.patch_bytes.specs.Puts.{Put}
use Rattle.edit_ops.specs.Rules.{sum_put}
use Rattle.dgn_drawing.proofs.SpotSteps.{LieIn}
use Rattle.edit_ops.proofs.changes.live.push_sums.Goals as goal

pub spots-init : goal.spots-init
spots-init c =
    let begun : spots_left c.into_iter-spot-iterator.result ≡ spots_of c.args.d.now.dim c.args.found.kind c.args.found.bytes.now =
    ap (λ (s : Spots). spots_left s) c.into_iter-spot-iterator.ensures.into_iter_gives ∙ c.coordinates-spots.ensures.spots in
    record {
      all =
          ap (λ (qs : List Put). qs ++ map (sum_put c.args.by.now c.args.found.place c.args.found.bytes.now) (spots_left c.into_iter-spot-iterator.result))
          c.reserve.ensures
          ∙ ap (λ (ss : List Spot). c.args.patches.now ++ map (sum_put c.args.by.now c.args.found.place c.args.found.bytes.now) ss) begun;
      lie = subst (LieIn (length c.args.found.bytes.now)) (sym begun) c.coordinates-spots.ensures.within;
      same = ap (λ (ss : List Spot). list_all (λ s. is_on_plane (sum_at c.args.by.now c.args.found.bytes.now s)) ss) begun;
    }
