use Rattle.std.proofs.Common.{arith}
use Rattle.nest_tree.proofs.SourceRows.{few_rows, places_far}
use Rattle.nest_tree.proofs.source.Source.past.Goals as goal

pub overflow_add-result : goal.overflow_add-result
overflow_add-result c =
    let known = c.requires.known in
    let fits = c.saturating_sub-most.type_inv in
    omega (arith, few_rows c.args.self.now c.requires.source)

pub overflow_add-result-2 : goal.overflow_add-result-2
overflow_add-result-2 c =
    let known = c.requires.known in
    let fits = c.saturating_sub-most.type_inv in
    omega (arith, few_rows c.args.self.now c.requires.source)

pub returns-clause-far : goal.returns-clause-far
returns-clause-far c = λ k past within.
    let less = places_far c.args.self.now c.requires.source c.args.first k within in
    omega (arith, c.saturating_sub-most.ensures, c.place.ensures.place)
