use Rattle.std.proofs.Common.{List, map, ap, ◌∙◌, take_all, arith}
use Rattle.dgn_drawing.specs.Element.{Element}
use Rattle.elem_index.specs.Design.{elements}
use Rattle.dgn_listing.specs.Counts.{counts}
use Rattle.dgn_listing.proofs.Listings.{listed_found, counted_more, counted_few}
use Rattle.dgn_listing.proofs.counts.totals_of.Goals as goal

pub count_both-requires : goal.count_both-requires
count_both-requires c = record {
  level = omega (
    arith,
    counted_few (λ (e : Element). e.level) (elements c.args.d.now)
        c.loop-n.n c.in-Some.listed.level c.loop-n.levels.entries c.loop-n.invariant.levels,
  );
  kind = omega (
    arith,
    counted_few (λ (e : Element). e.kind) (elements c.args.d.now)
        c.loop-n.n c.in-Some.listed.kind c.loop-n.types.entries c.loop-n.invariant.types,
  );
}

pub loop-n-preserved : goal.loop-n-preserved
loop-n-preserved c =
    let here = listed_found (elements c.args.d.now) c.loop-n.n c.in-Some.listed c.in-Some.ensures in
    record {
      levels = c.in_ok-count_both.ensures.levels
          ∙ counted_more (λ (e : Element). e.level) (elements c.args.d.now)
          c.loop-n.n here.element c.in-Some.listed.level c.loop-n.levels.entries here.found here.level c.loop-n.invariant.levels;
      types = c.in_ok-count_both.ensures.types
          ∙ counted_more (λ (e : Element). e.kind) (elements c.args.d.now)
          c.loop-n.n here.element c.in-Some.listed.kind c.loop-n.types.entries here.found here.kind c.loop-n.invariant.types;
    }

pub returns-clause-levels : goal.returns-clause-levels
returns-clause-levels c =
    c.loop-n.invariant.levels
    ∙ ap (λ (es : List Element). counts (map (λ (e : Element). e.level) es)) (take_all c.loop-n.n (elements c.args.d.now) (omega arith))

pub returns-clause-types : goal.returns-clause-types
returns-clause-types c =
    c.loop-n.invariant.types ∙ ap (λ (es : List Element). counts (map (λ (e : Element). e.kind) es)) (take_all c.loop-n.n (elements c.args.d.now) (omega arith))
