use Rattle.std.proofs.Common.{◌≡◌, ◌∙◌, ◌+◌, ◌<◌, ◌++◌, ◌∷◌, [], ℕ, ap, sym, length, get_or, arith}
use Rattle.std.proofs.lemmas.List.{get_or-append-add}
use Rattle.std.proofs.lemmas.Bool.Decides.{nat_tests}
use Rattle.nest_tree.specs.declared.source.Source.{Source}
use Rattle.nest_tree.specs.Sources.{place_in}
use Rattle.nest_tree.proofs.RowPlaces.{length-places, place_light}
use Rattle.nest_tree.proofs.SourceRows.{as_listed, listed_length, kept_length}
use Rattle.nest_tree.proofs.source.Source.place.Goals as goal

pub bounds-sums-i : goal.bounds-sums-i
bounds-sums-i c =
    let known = c.requires.known in
    let inside : c.args.i < length c.in-Listed.sums.now =
    omega (arith, listed_length c.args.self.now c.in-Listed.field-0 c.in-Listed.sums c.in-Listed.is c.requires.source) in
    inside

pub returns-in-Listed-clause-small : goal.returns-in-Listed-clause-small
returns-in-Listed-clause-small c =
    let listed = as_listed c.args.self.now c.in-Listed.field-0 c.in-Listed.sums c.in-Listed.is c.requires.source in
    let known = c.requires.known in
    let few = listed.few in
    place_light c.in-Listed.field-0.now c.in-Listed.sums.now c.args.i listed.are_sums listed.light (omega arith)
    (omega (
      arith,
      listed_length c.args.self.now c.in-Listed.field-0 c.in-Listed.sums c.in-Listed.is c.requires.source,
      length-places 0 c.in-Listed.field-0.now,
      ap (length {A = ℕ}) listed.are_sums,
    ))

pub returns-in-None-clause-place : goal.returns-in-None-clause-place
returns-in-None-clause-place c =
    let known = c.requires.known in
    let past = c.in-None.ensures.lookup in
    let long = kept_length c.args.self.now c.in-Kept.places c.in-Kept.field-1 c.in-Kept.field-2 c.in-Kept.end c.in-Kept.is c.requires.source in
    let last : length c.in-Kept.places.now + 0 ≡ c.args.i = grind (arith, nat_tests) in
    c.from-in-None.ensures ∙ sym (get_or-append-add c.in-Kept.places.now (c.in-Kept.end ∷ []) 0 0)
    ∙ ap (λ (n : ℕ). get_or (c.in-Kept.places.now ++ c.in-Kept.end ∷ []) n 0) last
    ∙ sym (ap (λ (s : Source). place_in s c.args.i) c.in-Kept.is)
