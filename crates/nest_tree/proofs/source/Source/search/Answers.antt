use Rattle.std.proofs.Common.{◌∙◌, ◌+◌, ◌∷◌, [], ap, arith}
use Rattle.std.proofs.lemmas.List.{get_or_append_left}
use Rattle.nest_tree.specs.declared.source.Source.{Source}
use Rattle.nest_tree.specs.Sources.{place_in}
use Rattle.nest_tree.proofs.SourceRows.{listed_length, listed_rises, kept_length, kept_rises}
use Rattle.nest_tree.proofs.source.Source.search.Goals as goal

pub sums_below-requires-clause-known : goal.sums_below-requires-clause-known
sums_below-requires-clause-known c =
    let known = c.requires.known in
    omega (arith, listed_length c.args.self.now c.in-Listed.field-0 c.in-Listed.sums c.in-Listed.is c.requires.source)

pub sums_below-requires-clause-rise : goal.sums_below-requires-clause-rise
sums_below-requires-clause-rise c = listed_rises c.args.self.now c.in-Listed.field-0 c.in-Listed.sums c.in-Listed.is c.requires.source

pub places_below-requires-clause-known : goal.places_below-requires-clause-known
places_below-requires-clause-known c =
    let known = c.requires.known in
    omega (arith, kept_length c.args.self.now c.in-Kept.places c.in-Kept.field-1 c.in-Kept.field-2 c.in-Kept.field-3 c.in-Kept.is c.requires.source)

pub places_below-requires-clause-rise : goal.places_below-requires-clause-rise
places_below-requires-clause-rise c =
    kept_rises c.args.self.now c.in-Kept.places c.in-Kept.field-1 c.in-Kept.field-2 c.in-Kept.field-3 c.in-Kept.is c.requires.source

pub returns-in-Kept-clause-before : goal.returns-in-Kept-clause-before
returns-in-Kept-clause-before c = λ k early.
    let known = c.requires.known in
    let within = c.places_below.ensures.within in
    let long = kept_length c.args.self.now c.in-Kept.places c.in-Kept.field-1 c.in-Kept.field-2 c.in-Kept.field-3 c.in-Kept.is c.requires.source in
    let low = c.places_below.ensures.before k early in
    let here = ap (λ (s : Source). place_in s (c.args.first + k)) c.in-Kept.is
    ∙ get_or_append_left c.in-Kept.places.now (c.in-Kept.field-3 ∷ []) 0 (c.args.first + k) (omega arith) in
    omega arith
