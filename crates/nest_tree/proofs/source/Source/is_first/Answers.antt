use Rattle.std.proofs.Common.{◌+◌, ◌-◌, arith}
use Rattle.std.proofs.lemmas.Bool.{ltb-true}
use Rattle.nest_tree.proofs.SourceRows.{source_rises, length-places_of, places_strict}
use Rattle.nest_tree.proofs.source.Source.is_first.Goals as goal

pub returns-then-here-wanted-clause-before : goal.returns-then-here-wanted-clause-before
returns-then-here-wanted-clause-before c = λ same k before.
    let known = c.requires.known in
    let rise = places_strict c.args.self.now c.requires.source (c.args.first + k) c.args.i before known in
    omega (arith, c.place-here.ensures.place, c.if-here-wanted.true)

pub returns-else-i-first-clause-before : goal.returns-else-i-first-clause-before
returns-else-i-first-clause-before c = λ less k before.
    let known = c.requires.known in
    let long = length-places_of c.args.self.now c.requires.source in
    let rise = source_rises c.args.self.now c.requires.source (c.args.first + k) (c.args.i - 1) (omega arith) (omega arith) in
    omega (arith, c.place.ensures.place, ltb-true c.place.result c.args.wanted less)
