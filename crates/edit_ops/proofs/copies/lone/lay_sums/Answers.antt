use Rattle.std.proofs.Common.{◌≡◌, ◌++◌, length, map, sym, ap, ◌∙◌, subst, arith, List, ℕ}
use Rattle.std.specs.List.{list_all}
use Rattle.range_code.specs.Plane.{is_on_plane}
use Rattle.dgn_layout.specs.declared.spot.Spot.{Spot}
use Rattle.dgn_layout.specs.declared.types.spots.Spots.{Spots}
use Rattle.dgn_layout.specs.Spots.{spots_of}
use Rattle.dgn_layout.specs.SpotsLeft.{spots_left}
use Rattle.dgn_drawing.specs.SpotNumbers.{sum_at, number_bytes}
use Rattle.patch_bytes.specs.Puts.{Put, write}
use Rattle.edit_ops.specs.Rules.{sum_put}
use Rattle.dgn_drawing.proofs.SpotSteps.{LieIn}
use Rattle.edit_ops.proofs.ElementMoves.{stays_next}
use Rattle.edit_ops.proofs.TextTurns.{lay_behind}
use Rattle.edit_ops.proofs.copies.lone.lay_sums.Goals as goal

pub spots-init : goal.spots-init
spots-init c =
    let begun : spots_left c.into_iter-spot-iterator.result ≡ spots_of c.args.d.now.dim c.args.found.kind c.args.found.bytes.now =
    ap (λ (s : Spots). spots_left s) c.into_iter-spot-iterator.ensures.into_iter_gives ∙ c.coordinates-spot-items.ensures.spots in
    record {
      long = c.requires.same_length;
      lie = subst (LieIn (length c.args.found.bytes.now)) (sym begun) c.coordinates-spot-items.ensures.within;
      same = ap (λ (ss : List Spot). list_all (λ s. is_on_plane (sum_at c.args.by.now c.args.found.bytes.now s)) ss) begun;
      give = λ a long. ap (λ (ss : List Spot). write (a ++ c.args.copy.now) (map (sum_put c.args.by.now c.args.found.place c.args.found.bytes.now) ss)) begun;
    }

pub spots-preserved : goal.spots-preserved
spots-preserved c =
    let sums : List Spot → List Put = map (sum_put c.args.by.now c.args.found.place c.args.found.bytes.now) in
    record {
      long = omega (arith, c.put_sum.auto.copy, c.spots.invariant.long);
      lie = (subst (LieIn (length c.args.found.bytes.now)) c.in-Some.ensures.steps c.spots.invariant.lie).1;
      same =
          stays_next (λ s. is_on_plane (sum_at c.args.by.now c.args.found.bytes.now s)) c.in-Some.spot (spots_left c.next.new.self)
          (sym c.put_sum.ensures.on_plane ∙ c.if-not-put_sum.false)
          ∙ ap (λ (ss : List Spot). list_all (λ s. is_on_plane (sum_at c.args.by.now c.args.found.bytes.now s)) ss) (sym c.in-Some.ensures.steps)
          ∙ c.spots.invariant.same;
      give = λ a long.
          ap (λ (z : List ℕ). write (a ++ z) (sums (spots_left c.next.new.self))) (c.put_sum.ensures.laid c.if-not-put_sum.false)
          ∙ ap (λ (z : List ℕ). write z (sums (spots_left c.next.new.self)))
          (sym (lay_behind c.args.found.place a c.spots.copy
          (record { at = c.in-Some.spot.at; bytes = number_bytes c.in-Some.spot (sum_at c.args.by.now c.args.found.bytes.now c.in-Some.spot) }) long))
          ∙ ap (λ (ss : List Spot). write (a ++ c.spots.copy) (sums ss)) (sym c.in-Some.ensures.steps)
          ∙ c.spots.invariant.give a long;
    }
