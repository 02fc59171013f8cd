use Rattle.std.proofs.Common.{◌≡◌, ◌++◌, length, map, [], sym, ap, ◌∙◌, subst, List}
use Rattle.std.proofs.lemmas.List.{append-nil}
use Rattle.dgn_layout.specs.declared.spot.Spot.{Spot}
use Rattle.dgn_layout.specs.declared.types.spots.Spots.{Spots}
use Rattle.dgn_layout.specs.Spots.{spots_of}
use Rattle.dgn_layout.specs.SpotsLeft.{spots_left}
use Rattle.edit_ops.specs.Rules.{wider_put}
use Rattle.dgn_drawing.proofs.SpotSteps.{LieIn}
use Rattle.edit_ops.proofs.WiderRanges.{of_ranges, ranges_are}
use Rattle.edit_ops.proofs.changes.headers.push_range.Goals as goal

pub spots-init : goal.spots-init
spots-init c =
    let begun : spots_left c.into_iter-spot-iterator.result ≡ spots_of c.args.d.now.dim c.args.found.kind c.args.found.bytes.now =
    ap (λ (s : Spots). spots_left s) c.into_iter-spot-iterator.ensures.into_iter_gives ∙ c.coordinates-spot-items.ensures.spots in
    record {
      all = ap (λ (ss : List Spot). c.args.patches.now ++ map (wider_put c.args.r c.args.found.place c.args.found.bytes.now) (of_ranges ss)) begun;
      lie = subst (LieIn (length c.args.found.bytes.now)) (sym begun) c.coordinates-spot-items.ensures.within;
    }

pub returns : goal.returns
returns c =
    let none : spots_left c.spots.spot-iterator ≡ [] = c.in-None.ensures.steps.0 in
    sym (append-nil c.spots.patches)
    ∙ ap (λ (ss : List Spot). c.spots.patches ++ map (wider_put c.args.r c.args.found.place c.args.found.bytes.now) (of_ranges ss)) (sym none)
    ∙ c.spots.invariant.all
    ∙ ap (λ (ss : List Spot). c.args.patches.now ++ map (wider_put c.args.r c.args.found.place c.args.found.bytes.now) ss)
    (ranges_are c.args.d.now.dim c.args.found.kind c.args.found.bytes.now c.requires.spotted)
